-- `motion::glyph::has_ink` meets its contract: a bit by a shift.
-- Assumes nothing.
use Prim.Native.Nat.{◌%◌}
use lib.ListN.{get_or}
use borrow.Author.Tests.{lt-ltb, le-ltb}
use Rattle.picture.proofs.Laws.{bit_shift}
use Rattle.motion.specs.Glyph.{inked}
use Rattle.motion.proofs.glyph.has_ink.Goals as goal

pub returns-then-column-lt5 : goal.returns-then-column-lt5
unfolding inked
returns-then-column-lt5 c =
    let a = c.args in
    rw (lt-ltb a.column 5 c.if-column-lt5.true, bit_shift (a.row % 8) (get_or a.part.now a.column 0))

pub returns-else-column-lt5 : goal.returns-else-column-lt5
unfolding inked
returns-else-column-lt5 c = rw (le-ltb c.args.column 5 c.if-column-lt5.false)
