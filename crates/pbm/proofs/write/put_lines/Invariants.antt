-- `pbm::write::put_lines`: the loop's invariant: the lines of the bytes before those that are left are written.
-- Assumes nothing.
use Rattle.std.proofs.Common.{◌≡◌}
use Rattle.pbm.proofs.Parts.{Lines}
use Rattle.pbm.proofs.write.put_lines.Given as goal

abbrev pub invariant-loop-eight : goal.invariant-loop-eight
invariant-loop-eight l = (l.eight-iterator.size ≡ 8) × Lines l.line l.initial.w l.eight-iterator.rest.now l.w
