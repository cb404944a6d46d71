-- `gdp::state::Gdp::grant_pause` meets its contract: the one cycle of 0F writes no dot and stays where it is.
-- Assumes nothing.
use mathlib.Core.Path.{refl}
use native.Mathlib.Omega.{arith}
use Rattle.std.proofs.Common.{rules}
use Rattle.drawing.specs.Figure.{Pause, cycles_of}
use Rattle.gdp.proofs.Steps.{Going, step_refused, step_goes, step_granted, pause_steps, pause_ran}
use Rattle.gdp.proofs.cycles.Running.grant_pause.Goals as goal
use Rattle.gdp.proofs.cycles.Running.grant_pause.Goals.{In_ok-check_step, Start}

pub returns-in_err-check_step : goal.returns-in_err-check_step
unfolding cycles_of
returns-in_err-check_step c =
    step_refused (pause_steps c.args.self.card c.args.self.plain c.args.self.steps c.requires) _ _ refl _ c.in_err-check_step.field-0.0 (search rules) c.in_err-check_step.ensures

-- past the refusals its cycle is left
going : (c : In_ok-check_step) → let a = c.args in Going a.self.card Pause a.pic.now a.table.now 1
unfolding cycles_of
going c = step_goes (pause_steps c.args.self.card c.args.self.plain c.args.self.steps c.requires) _ _ refl c.in_ok-check_step.ensures

pub returns : goal.returns
returns c =
    step_granted (going (goal.at.returns c).In_ok-check_step) _ (omega (arith, (going (goal.at.returns c).In_ok-check_step).some)) c.min-used.ensures
    (pause_ran c.args.self.card _ _ _ _ c.args.self.plain)
    c.after_run.ensures
