-- `pbm::read::show`: the loop's invariant: all lines but the y lowest are shown.
-- Assumes nothing.
use Rattle.pbm.proofs.Showing.{Showing}
use Rattle.pbm.proofs.read.show.Given as goal

abbrev pub invariant-loop-y : goal.invariant-loop-y
invariant-loop-y l = Showing l.left l.n l.h l.pic l.rest l.y
