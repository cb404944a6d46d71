-- `gdp::state::Gdp::prompted` meets its contract: the clears that change registers first; the other arms need no answer.
-- Assumes nothing.
use Rattle.rules.specs.State.{with_regs}
use Rattle.rules.specs.Commands.{commanded, clearing, prompt}
use Rattle.gdp.specs.Flat.{flat}
use Rattle.gdp.proofs.state.Gdp.prompted.Goals as goal

pub returns-in-6 : goal.returns-in-6
unfolding commanded clearing prompt flat
returns-in-6 c s e = rw c.in-6.is (c.clears-in-6.ensures (with_regs (commanded s.regs 0x06) s) (simp e))

pub returns-in-7 : goal.returns-in-7
unfolding commanded clearing prompt flat
returns-in-7 c s e = rw c.in-7.is (c.clears-in-7.ensures (with_regs (commanded s.regs 0x07) s) (simp e))
