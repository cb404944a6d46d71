-- `panel::dots::put_byte`: the lines of the first k dots of byte i are written.
-- Assumes nothing.
use Prim.Native.Nat.{◌+◌, ◌*◌, ◌≤◌}
use Rattle.panel.specs.Panel.{dot_lines}
use Rattle.text.specs.Working.Writes.{Writes}
use Rattle.panel.proofs.dots.put_byte.Given as goal

abbrev pub invariant-loop-k : goal.invariant-loop-k
invariant-loop-k l = Writes l.initial.w (dot_lines l.pic (8 * l.i) l.k) l.w × (l.w.at ≤ l.initial.w.at + 10 * l.k)
