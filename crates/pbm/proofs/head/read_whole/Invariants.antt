-- `pbm::head::read_whole`: the loop's invariant: n is the number of the digits read, and the rest decides.
-- Assumes nothing.
use Rattle.std.proofs.Common.{drop}
use Rattle.pbm.proofs.Wholes.{Reading}
use Rattle.pbm.proofs.head.read_whole.Given as goal

abbrev pub invariant-loop-i : goal.invariant-loop-i
invariant-loop-i l = Reading l.left l.n (drop l.i l.rest)
