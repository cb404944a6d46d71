-- `pbm::read::are_dots`: the loop's invariant: the signs of the bytes done are dots.
-- Assumes nothing.
use Rattle.pbm.proofs.Showing.{Looked}
use Rattle.pbm.proofs.read.are_dots.Given as goal

abbrev pub invariant-loop : goal.invariant-loop
invariant-loop l = Looked l.left l.n l.rest l.counter
