-- `pbm::read::show_line`: the loop's invariant: so many bytes of the line are shown.
-- Assumes nothing.
use Rattle.std.proofs.Common.{length}
use Rattle.pbm.proofs.Showing.{Lined}
use Rattle.pbm.proofs.read.show_line.Given as goal

abbrev pub invariant-loop-byte : goal.invariant-loop-byte
invariant-loop-byte l = Lined l.left (length l.initial.line) l.line l.rest l.byte-index
