-- `drawing::column::draw_bands`: the loop's invariant: so many rows of the glyph are painted, and where one is left, its dots begin as
-- much back from d as each row's.
-- Assumes nothing.
use mathlib.Core.Path.{◌≡◌}
use Prim.Native.Nat.{◌+◌, ◌*◌}
use Rattle.drawing.specs.Working.Column.{band_dots}
use Rattle.drawing.proofs.Runs.{Done}
use Rattle.drawing.proofs.column.draw_bands.Given as goal

abbrev pub invariant-loop-row : goal.invariant-loop-row
invariant-loop-row l =
    (l.d + l.row * l.s.back ≡ l.from + l.row * l.s.ahead) × Done l.t.lit (band_dots l.t l.s l.glyph l.column l.from) 0 l.initial.pic l.row l.row l.pic
