-- `pbm::write::put_body`: the loop's invariant: whoever writes the lines that are left, the lowest, has written the whole picture.
-- Assumes nothing.
use Rattle.std.proofs.Common.{◌≡◌, ◌*◌}
use Rattle.pbm.proofs.Parts.{Tops}
use Rattle.pbm.proofs.write.put_body.Given as goal

abbrev pub invariant-loop-line : goal.invariant-loop-line
invariant-loop-line l = (l.line-iterator.size ≡ 8 * l.n) × Tops l.n l.pic l.initial.w l.line-iterator.rest.now l.w
