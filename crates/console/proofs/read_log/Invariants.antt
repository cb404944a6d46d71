-- The filled part is what was consumed, and the buffer keeps its length.
-- Assumes nothing.
use Rattle.std.proofs.Common.{◌≡◌, ◌≤◌, length, take}
use Rattle.std.specs.Io.KnownBytes.{Consumes}
use Rattle.console.proofs.read_log.Given as goal

abbrev pub invariant-loop : goal.invariant-loop
invariant-loop g l = (length l.log ≡ length l.initial.log) × (l.got ≤ length l.log) × Consumes (g.R.Read.remaining l.initial.reader) (g.R.Read.remaining l.reader) (take l.got l.log)
