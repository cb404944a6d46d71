-- `pbm::white::pass`: the loop's invariant: what is left behind the white space is the same from the start on and from i on, in a
-- comment or not.
-- Assumes nothing.
use Rattle.std.proofs.Common.{◌≡◌, false, drop}
use Rattle.pbm.specs.Contents.{passed}
use Rattle.pbm.proofs.white.pass.Given as goal

abbrev pub invariant-loop-i : goal.invariant-loop-i
invariant-loop-i l = passed false l.left ≡ passed l.comment (drop l.i l.left)
