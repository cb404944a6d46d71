-- `picture::screen::fold` meets its contract: below a power of two a mask is the remainder.
-- Assumes nothing.
use Rattle.picture.proofs.Screens.{fold_mask}
use Rattle.picture.proofs.screen.fold.Goals as goal

pub returns-then-cyclic : goal.returns-then-cyclic
returns-then-cyclic c = rw c.if-cyclic.true (fold_mask c.args.size c.args.p c.requires)
