-- `picture::dot::set_dot` meets its contract: the byte of the dot, with the dot's bit written.
-- Assumes nothing.
use Rattle.picture.specs.Dot.{set_dot}
use Rattle.picture.proofs.dot.set_dot.Goals as goal

pub returns : goal.returns
unfolding set_dot
returns c = rw c.with_bit.ensures
