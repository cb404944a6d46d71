-- `drawing::inside::draw_within`: the loop's invariant: the trace is on its dot, and the cycles so far are done.
-- Assumes nothing.
use Rattle.motion.specs.Position.{behind}
use Rattle.motion.specs.Vector.{vector_x, vector_y}
use Rattle.drawing.specs.Working.Cycle.{vector_dot}
use Rattle.drawing.specs.Working.Inside.{OnTrace}
use Rattle.drawing.proofs.Runs.{Done}
use Rattle.drawing.proofs.inside.draw_within.Given as goal

abbrev pub invariant-loop : goal.invariant-loop
invariant-loop l =
    let x₀ = behind l.fn.run.at.x (vector_x l.v.line l.fn.run.from) in
    let y₀ = behind l.fn.run.at.y (vector_y l.v.line l.fn.run.from) in
    OnTrace l.t.window.width l.v.line x₀ y₀ l.s × Done l.t.lit (vector_dot l.t l.ctrl2 l.v.line x₀ y₀) l.fn.run.from l.initial.pic l.counter l.s.i l.pic
