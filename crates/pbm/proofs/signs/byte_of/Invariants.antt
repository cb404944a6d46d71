-- `pbm::signs::byte_of`: the loop's invariant: the byte is that of the signs which come behind those that are left.
-- Assumes nothing.
use Rattle.pbm.proofs.Eights.{Weighed}
use Rattle.pbm.proofs.signs.byte_of.Given as goal

abbrev pub invariant-loop-b : goal.invariant-loop-b
invariant-loop-b l = Weighed l.signs l.b-iterator.iter.rest.now l.byte
