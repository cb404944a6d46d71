use mathlib.Core.Path.{sym, ◌∙◌}
use Rattle.rules.specs.Sequence.{Off}
use Rattle.rules.specs.State.{with_lpck, with_regs, with_light_pen}
use Rattle.rules.specs.Blanking.{after_edge}
use Rattle.gdp.specs.Flat.{flat}
use Rattle.gdp.proofs.Frames.{light_pen_seen}
use Rattle.gdp.proofs.state.Gdp.after_edge.Goals as goal

pub returns-then-is_light_pen_open : goal.returns-then-is_light_pen_open
unfolding after_edge flat
returns-then-is_light_pen_open c s e =
    rw (light_pen_seen s e ∙ sym c.is_light_pen_open.ensures ∙ c.if-is_light_pen_open.true)
    (c.raised.ensures (with_light_pen Off (with_regs (with_lpck _ _ s.regs) s)) (c.light_pen_ends.ensures (with_regs (with_lpck _ _ s.regs) s) (simp e)))

pub returns : goal.returns
unfolding after_edge
returns c s e = rw (light_pen_seen s e ∙ sym c.is_light_pen_open.ensures ∙ c.if-is_light_pen_open.false) e
