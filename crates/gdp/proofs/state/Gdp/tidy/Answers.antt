-- `gdp::state::Gdp::tidy` meets its contract: by what runs, the two bytes of small fields are those of the state.
-- Assumes nothing.
use mathlib.Core.Path.{sym, ap, ◌∙◌}
use Rattle.basis.proofs.Cases.{and_parts}
use Rattle.rules.specs.Sequence.{Work}
use Rattle.rules.specs.State.{with_work}
use Rattle.gdp.specs.Flat.{named_modes, named_signals, work_at, flat, state_of}
use Rattle.gdp.proofs.Flaws.{rests, idle_rests, steps_run}
use Rattle.gdp.proofs.Bytes.{named_signals_lem}
use Rattle.gdp.proofs.ClearBytes.{clear_runs, clear_kept}
use Rattle.gdp.proofs.state.Gdp.tidy.Goals as goal

pub returns-then-work : goal.returns-then-work
returns-then-work c n =
    let b = c.args.self in
    c.idle.ensures n ∙ ap flat (rests (state_of b) (idle_rests b (sym c.work_number-work.ensures ∙ c.if-work.true)))

pub returns-then-work-2 : goal.returns-then-work-2
returns-then-work-2 c n =
    let b = c.args.self in
    c.stepping.ensures n
    ∙ ap (λ (w : Work). flat (with_work w (state_of b))) (sym (steps_run b (sym c.work_number-work.ensures ∙ c.if-work-2.true)))

pub returns : goal.returns
unfolding flat state_of work_at
returns c n =
    let b = c.args.self in
    let h = and_parts (named_modes b.modes) (named_signals b.signals) n in
    let two = clear_runs b.modes h.0 (λ e. c.if-work.false (c.work_number-work.ensures ∙ e)) (λ e. c.if-work-2.false (c.work_number-work.ensures ∙ e)) in
    simp (c.clear_modes.ensures, c.in_use.ensures, named_signals_lem b.signals h.1, clear_kept b.modes h.0 two, two)
