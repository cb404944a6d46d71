-- `gdp::state::Gdp::grant_body` meets its contract: a character's or block's run is the definition's grant.
-- Assumes nothing.
use mathlib.Core.Path.{refl}
use Prim.Native.Nat.{◌*◌, ◌<◌}
use native.Mathlib.Omega.{arith}
use Rattle.std.proofs.Common.{rules}
use Rattle.motion.specs.Character.{body_cycles}
use Rattle.drawing.specs.Figure.{Cells, cycles_of}
use Rattle.gdp.proofs.Steps.{Going, step_refused, step_goes, on_screen, run_granted, step_granted, figure_steps, has_table}
use Rattle.gdp.proofs.cycles.Running.grant_body.Goals as goal
use Rattle.gdp.proofs.cycles.Running.grant_body.Goals.{In_ok-check_step, Start}

-- the command steps, and its figure is at hand
pub overflow_mul-cycles : goal.overflow_mul-cycles
unfolding body_cycles
overflow_mul-cycles c = omega (arith, c.requires.body.1)

pub returns-in_err-check_step : goal.returns-in_err-check_step
unfolding cycles_of body_cycles
returns-in_err-check_step c =
    step_refused (figure_steps c.args.self.card c.args.self.plain c.args.self.steps c.requires.body.0) _ _ refl _ c.in_err-check_step.field-0.0 (search rules) c.in_err-check_step.ensures

-- past the refusals it has cycles left
going : (c : In_ok-check_step) →
    let a = c.args in
    Going a.self.card (Cells a.letter.lie a.letter.body) a.pic.now a.table.now (a.letter.body.columns * a.letter.body.rows)
unfolding cycles_of body_cycles
going c = step_goes (figure_steps c.args.self.card c.args.self.plain c.args.self.steps c.requires.body.0) _ _ refl c.in_ok-check_step.ensures

pub draw_letter-s-requires : goal.draw_letter-s-requires
draw_letter-s-requires c =
    let g = going (goal.at.draw_letter-s-requires c).In_ok-check_step in
    let byte : c.args.self.card.code < 256 = omega (arith, c.struct_known-2-1.given) in record {
      screen = on_screen g;
      granted = (
        omega (arith, c.requires.body.1),
        has_table c.args.self.card.code _ byte c.requires.letter g.table,
        run_granted g _ refl c.min-used.ensures,
      );
    }

pub after_run-requires : goal.after_run-requires
unfolding body_cycles
after_run-requires c =
    omega (arith, (going (goal.at.after_run-requires c).In_ok-check_step).some, c.requires.body.1, c.min-used.ensures)

pub returns : goal.returns
returns c =
    step_granted (going (goal.at.returns c).In_ok-check_step) _ refl c.min-used.ensures
    c.draw_letter-s.ensures
    c.after_run.ensures
