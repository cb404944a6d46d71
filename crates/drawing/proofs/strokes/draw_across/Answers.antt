-- `drawing::strokes::draw_across` meets its contract.
-- Assumes nothing.
use mathlib.Core.Path.{◌≡◌, ◌∙◌}
use Prim.Native.Nat.{◌+◌, ◌≤◌}
use native.Mathlib.Nat.{min-eq_left}
use native.Mathlib.Omega.{arith}
use Rattle.motion.specs.Position.{moved, moved_back}
use Rattle.motion.specs.Vector.{vector_cycles}
use Rattle.drawing.specs.Figure.{Stroke, cycles_of, way, writes}
use Rattle.drawing.specs.Run.{start_of, place_of, dot_of, dots_from}
use Rattle.drawing.specs.Working.Cycle.{vector_dot}
use Rattle.drawing.proofs.Runs.{none, more, size, still, vector_here}
use Rattle.drawing.proofs.Rests.{stroke_rests}
use Rattle.drawing.proofs.strokes.draw_across.Goals as goal

pub stroke_at-s-requires : goal.stroke_at-s-requires
unfolding cycles_of vector_cycles
stroke_at-s-requires c =
    let g = c.requires.granted in
    (omega (arith, g.some), g.x, g.y)

pub loop-init : goal.loop-init
loop-init c = (c.stroke_at-s.ensures.1, none c.stroke_at-s.ensures.0)

pub is_on-on-requires : goal.is_on-on-requires
is_on-on-requires c = c.line_type-kind.ensures.0

pub touch-requires : goal.touch-requires
touch-requires c =
    still c.loop.invariant.1 c.requires.screen

pub next_dot-s-requires : goal.next_dot-s-requires
unfolding cycles_of vector_cycles
next_dot-s-requires c =
    let within : c.loop.s.i ≤ c.args.v.line.long = omega (arith, c.requires.granted.most) in
    (within, rw (min-eq_left within) at c.loop.invariant.0.error)

pub loop-preserved : goal.loop-preserved
unfolding cycles_of vector_cycles
loop-preserved c =
    let a = c.args in
    let inv = c.loop.invariant in
    let next = c.next_dot-s.ensures in
    let on = c.is_on-on.ensures ∙ c.line_type-kind.ensures.1 c.loop.s.i in
    let here = vector_here a.t a.ctrl2 inv.0 (omega (arith, c.requires.granted.most)) on in
    (next.1 _ _ inv.0, more inv.1 next.0 here c.touch.ensures)

pub shape_of-pic : goal.shape_of-pic
shape_of-pic c = size c.loop.invariant.1

pub returns : goal.returns
unfolding start_of moved_back way cycles_of vector_cycles dots_from dot_of place_of moved writes vector_dot
returns c glyph =
    let a = c.args in
    let all : c.loop.counter ≡ a.run.count = omega arith in
    let inv = rw all at c.loop.invariant in
    record {
      rests =
          stroke_rests a.ctrl2 a.v.line (start_of (Stroke a.ctrl2 a.v.line) a.run.from a.run.at) (a.run.from + a.run.count)
          c.requires.granted.most (rw inv.1.number at inv.0.x) (rw inv.1.number at inv.0.y);
      picture = inv.1.picture;
    }
