-- `panel::dots::put_dots`: the lines of the first i bytes are written.
-- Assumes nothing.
use Prim.Native.Nat.{◌+◌, ◌*◌, ◌≤◌}
use Rattle.panel.specs.Panel.{dot_lines}
use Rattle.text.specs.Working.Writes.{Writes}
use Rattle.panel.proofs.dots.put_dots.Given as goal

abbrev pub invariant-loop-i : goal.invariant-loop-i
invariant-loop-i l = Writes l.initial.w (dot_lines l.pic 0 (8 * l.i)) l.w × (l.w.at ≤ l.initial.w.at + 80 * l.i)
