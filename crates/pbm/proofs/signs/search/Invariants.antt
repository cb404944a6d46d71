-- `pbm::signs::search`: the loop's invariant: so many of the signs are found.
-- Assumes nothing.
use Rattle.pbm.proofs.Eights.{Sought}
use Rattle.pbm.proofs.signs.search.Given as goal

abbrev pub invariant-loop-sign : goal.invariant-loop-sign
invariant-loop-sign l = Sought l.left l.sign-items l.rest l.sign-index
