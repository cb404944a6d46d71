-- `drawing::inside::draw_within` meets its contract.
-- Assumes nothing.
use mathlib.Core.Path.{◌≡◌, ◌∙◌}
use Prim.Native.Nat.{◌+◌, ◌≤◌, min}
use native.Mathlib.Nat.{min-eq_left}
use native.Mathlib.Omega.{arith}
use Rattle.picture.proofs.Laws.{power_some, in_window}
use Rattle.motion.specs.Position.{behind, moved, moved_back}
use Rattle.motion.specs.Vector.{vector_cycles, vector_x, vector_y}
use Rattle.drawing.specs.Figure.{Stroke, cycles_of, way, writes}
use Rattle.drawing.specs.Run.{start_of, place_of, dot_of, dots_from}
use Rattle.drawing.specs.Working.Cycle.{vector_dot}
use Rattle.drawing.specs.Working.Inside.{Shown}
use Rattle.drawing.proofs.Runs.{none, more, size, still}
use Rattle.drawing.proofs.Rests.{stroke_rests}
use Rattle.drawing.proofs.Traces.{within_shown, shown_later, strode_most, dot_most, trace_marks, trace_place}
use Rattle.drawing.proofs.inside.draw_within.Goals as goal
use Rattle.drawing.proofs.inside.draw_within.Goals.{Start}

pub strides_of-by-requires : goal.strides_of-by-requires
strides_of-by-requires c = omega (arith, c.requires.screen.2.x.short)

pub trace_at-s-requires : goal.trace_at-s-requires
unfolding cycles_of vector_cycles
trace_at-s-requires c =
    let g = c.requires.granted in
    (omega (arith, g.some), g.x, g.y, c.requires.screen.2.x.short)

pub loop-init : goal.loop-init
loop-init c = (c.trace_at-s.ensures.1, none c.trace_at-s.ensures.0)

pub is_on-on-requires : goal.is_on-on-requires
is_on-on-requires c = c.line_type-kind.ensures.0

-- every dot of the run is inside
shown : (s : Start)
    → Shown s.args.t.window.width s.args.t.window.height s.args.v.line
    (behind s.args.run.at.x (vector_x s.args.v.line s.args.run.from))
    (behind s.args.run.at.y (vector_y s.args.v.line s.args.run.from)) s.args.run.from
shown s =
    let a = s.args in
    let g = s.requires.granted in
    within_shown a.t.window _ a.v.line a.run.at a.run.from s.requires.screen.0 s.args.v.lengths g.x g.y s.requires.screen.2

pub touch_dot-requires : goal.touch_dot-requires
unfolding cycles_of vector_cycles
touch_dot-requires c =
    let a = c.args in
    let inv = c.loop.invariant in
    let on : c.loop.s.i ≤ a.v.line.long = omega (arith, c.requires.granted.most) in
    let here = (shown (goal.at.touch_dot-requires c).Start).inside c.loop.s.i (omega (arith, inv.1.number)) on in
    rw (inv.0.dot, min-eq_left on) (in_window a.t.window _ _ _ (still inv.1 c.requires.screen.0) here.0 here.1)

pub next_trace-s-requires : goal.next_trace-s-requires
unfolding cycles_of vector_cycles
next_trace-s-requires c =
    let a = c.args in
    let inv = c.loop.invariant in
    let on : c.loop.s.i ≤ a.v.line.long = omega (arith, c.loop-test.true, c.requires.granted.most) in
    let small = strode_most a.t.window.width a.v.line c.strides_of-by.result c.strides_of-by.ensures (omega (arith, c.requires.screen.2.x.short)) in
    let later = shown_later a.t.window.width a.v.line a.t.window.height _ _ a.run.from c.loop.s.i (omega (arith, inv.1.number)) (shown (goal.at.next_trace-s-requires c).Start) in
    let dot = dot_most a.v.line c.args.v.lengths a.t.window.width a.t.window.height _ _ c.loop.s.i later on in
    record {
      error_value = (on, rw (min-eq_left on) at inv.0.error);
      dot_bound = (rw (inv.0.dot, min-eq_left on) dot, small.0, small.1);
    }

pub loop-preserved : goal.loop-preserved
unfolding cycles_of vector_cycles
loop-preserved c =
    let a = c.args in
    let inv = c.loop.invariant in
    let next = c.next_trace-s.ensures in
    let on : c.loop.s.i ≤ a.v.line.long = omega (arith, c.loop-test.true, c.requires.granted.most) in
    let later = shown_later a.t.window.width a.v.line a.t.window.height _ _ a.run.from c.loop.s.i (omega (arith, inv.1.number)) (shown (goal.at.loop-preserved c).Start) in
    let type = c.is_on-on.ensures ∙ c.line_type-kind.ensures.1 c.loop.s.i in
    let here = trace_marks a.t a.ctrl2 a.v.line _ _ c.loop.s c.requires.screen.1 later on inv.0 type in
    (next.1 _ _ _ _ c.strides_of-by.ensures later inv.0, more inv.1 next.0 here c.touch_dot.ensures)

pub place_of-requires : goal.place_of-requires
unfolding cycles_of vector_cycles
place_of-requires c =
    let a = c.args in
    let inv = c.loop.invariant in
    let first : a.run.from ≤ min c.loop.s.i a.v.line.long = omega (arith, inv.1.number, c.requires.granted.some) in
    let place = trace_place a.t.window.width a.t.window.height a.v.line _ _ a.run.from c.loop.s (shown (goal.at.place_of-requires c).Start) first inv.0 in
    (power_some c.requires.screen.0.wide, c.requires.screen.2.x.short, omega (arith, place.1))

pub shape_of-pic : goal.shape_of-pic
shape_of-pic c = size c.loop.invariant.1

pub returns : goal.returns
unfolding start_of moved_back way cycles_of vector_cycles dots_from dot_of place_of moved writes vector_dot
returns c glyph =
    let a = c.args in
    let all : c.loop.counter ≡ a.run.count = omega arith in
    let inv = c.loop.invariant in
    let first : a.run.from ≤ min c.loop.s.i a.v.line.long = omega (arith, inv.1.number, c.requires.granted.some) in
    let place = trace_place a.t.window.width a.t.window.height a.v.line _ _ a.run.from c.loop.s (shown (goal.at.returns c).Start) first inv.0 in
    let i : c.loop.s.i ≡ a.run.from + a.run.count = omega (arith, inv.1.number) in
    record {
      rests =
          stroke_rests a.ctrl2 a.v.line (start_of (Stroke a.ctrl2 a.v.line) a.run.from a.run.at) (a.run.from + a.run.count)
          c.requires.granted.most (c.place_of.ensures.0 ∙ (rw i at place.0)) (c.place_of.ensures.1 ∙ (rw i at place.1));
      picture = rw all at inv.1.picture;
    }
