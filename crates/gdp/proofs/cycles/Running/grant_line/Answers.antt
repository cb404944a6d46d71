-- `gdp::state::Gdp::grant_line` meets its contract: a vector's run is the definition's grant.
-- Assumes nothing.
use mathlib.Core.Path.{refl}
use Prim.Native.Nat.{◌+◌}
use Rattle.std.proofs.Common.{rules}
use Rattle.motion.specs.Vector.{vector_cycles}
use Rattle.drawing.specs.Figure.{Stroke, cycles_of}
use Rattle.rules.specs.Figure.{tables, glyph}
use Rattle.gdp.proofs.Steps.{Going, step_refused, step_goes, on_screen, run_granted, step_granted, vector_steps}
use Rattle.gdp.proofs.cycles.Running.grant_line.Goals as goal
use Rattle.gdp.proofs.cycles.Running.grant_line.Goals.{After-line_of-l, In_ok-check_step}

-- the vector, its line found
pub returns-in_err-check_step : goal.returns-in_err-check_step
unfolding cycles_of vector_cycles
returns-in_err-check_step c =
    step_refused (vector_steps c.args.self.card c.args.self.plain c.args.self.steps c.requires c.line_of-l.ensures.0) _ _ refl _ c.in_err-check_step.field-0.0 (search rules) c.in_err-check_step.ensures

-- past the refusals it has cycles left
going : (c : In_ok-check_step) →
    let a = c.args in
    let l = c.line_of-l.result in
    Going a.self.card (Stroke a.self.card.ctrl2 l) a.pic.now a.table.now (l.long + 1)
unfolding cycles_of vector_cycles
going c = step_goes (vector_steps c.args.self.card c.args.self.plain c.args.self.steps c.requires c.line_of-l.ensures.0) _ _ refl c.in_ok-check_step.ensures

pub draw_vector-s-requires : goal.draw_vector-s-requires
draw_vector-s-requires c =
    let g = going (goal.at.draw_vector-s-requires c).In_ok-check_step in record {
      screen = rw c.tip.ensures (on_screen g);
      granted = rw c.run.ensures (run_granted g _ refl c.min-used.ensures);
    }

pub returns : goal.returns
returns c =
    let ran = c.draw_vector-s.ensures (glyph (tables c.args.table.now) c.args.self.card.code) in
    step_granted (going (goal.at.returns c).In_ok-check_step) _ refl c.min-used.ensures
    (rw (c.tip.ensures, c.run.ensures) at ran)
    c.after_run.ensures
