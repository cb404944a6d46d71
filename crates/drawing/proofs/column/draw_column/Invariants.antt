-- `drawing::column::draw_column`: the loop's invariant: all the rows of the glyph are painted so many times, and d is as many lines above the foot.
-- Assumes nothing.
use mathlib.Core.Path.{◌≡◌}
use Prim.Native.Nat.{◌+◌, ◌*◌, ◌/◌}
use Rattle.picture.specs.Screen.{dot_number}
use Rattle.drawing.specs.Working.Column.{bands_dots}
use Rattle.drawing.proofs.Runs.{Done}
use Rattle.drawing.proofs.column.draw_column.Given as goal

abbrev pub invariant-loop : goal.invariant-loop
invariant-loop l =
    let w = l.t.window.width in
    let foot = dot_number w l.c.at.x l.c.at.y + l.s.first in
    let rows = l.letter.body.rows / l.letter.body.q in
    (l.d ≡ foot + l.counter * w)
    × Done l.t.lit (λ h. bands_dots l.t l.s l.glyph l.c.column (foot + h * w) rows) 0 l.initial.pic l.counter l.counter l.pic
