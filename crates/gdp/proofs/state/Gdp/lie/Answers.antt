-- `gdp::state::Gdp::lie` meets its contract.
-- Assumes nothing.
use Rattle.rules.specs.Figure.{lie}
use Rattle.gdp.proofs.state.Gdp.lie.Goals as goal

pub returns : goal.returns
unfolding lie
returns c = rw (c.bit_at.ensures, c.bit_at-2.ensures)
