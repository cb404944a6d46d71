-- `pbm::write::put_line`: the loop's invariant: the signs of so many bytes are written.
-- Assumes nothing.
use Rattle.std.proofs.Common.{◌*◌}
use Rattle.text.specs.Working.Writes.{Writes}
use Rattle.pbm.specs.File.{signs}
use Rattle.pbm.proofs.write.put_line.Given as goal

abbrev pub invariant-loop-byte : goal.invariant-loop-byte
invariant-loop-byte l = Writes l.initial.w (signs l.eight 0 (8 * l.byte-index)) l.w
