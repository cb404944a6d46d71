-- `pbm::write::put_eight`: the loop's invariant: k signs are written.
-- Assumes nothing.
use Rattle.std.proofs.Common.{take}
use Rattle.text.specs.Working.Writes.{Writes}
use Rattle.pbm.specs.Working.Bytes.{eight_signs}
use Rattle.pbm.proofs.write.put_eight.Given as goal

abbrev pub invariant-loop-k : goal.invariant-loop-k
invariant-loop-k l = Writes l.initial.w (take l.k (eight_signs l.v)) l.w
