-- `gdp::state::Gdp::run` meets its contract: X and Y, the progress, and the count.
-- Assumes nothing.
use mathlib.Core.Path.{refl}
use Rattle.gdp.specs.Working.Steps.{run_of}
use Rattle.gdp.proofs.state.Gdp.run.Goals as goal

pub returns : goal.returns
unfolding run_of
returns c = refl
