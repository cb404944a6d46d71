-- `gdp::state::Gdp::tip` meets its contract: the tip by CTRL1 over the format's window.
-- Assumes nothing.
use Rattle.rules.specs.Cycles.{pen_down, lights, cyclic, tip}
use Rattle.gdp.proofs.state.Gdp.tip.Goals as goal

pub returns : goal.returns
unfolding tip pen_down lights cyclic
returns c =
    simp (
      c.bit_at-3.ensures,
      c.bit_at-2.ensures,
      c.window_of-w.ensures,
      c.bit_at.ensures,
      c.format_of-f.ensures,
    )
