-- `pbm::head::past_digits`: the loop's invariant: behind the digits of the whole is behind those of what is left.
-- Assumes nothing.
use Rattle.std.proofs.Common.{◌≡◌, drop}
use Rattle.pbm.specs.Contents.{behind_digits}
use Rattle.pbm.proofs.head.past_digits.Given as goal

abbrev pub invariant-loop-i : goal.invariant-loop-i
invariant-loop-i l = behind_digits l.left ≡ behind_digits (drop l.i l.left)
