-- Refusal 1 as the code finds it: what every call tests first, and a stepping command's progress.
-- Assumes nothing.
use Rattle.std.specs.Prelude.{ℕ, Bool, false, not, ◌&&◌, ◌||◌, leb}
use Rattle.rules.specs.Sequence.{Work, Idle, Steps, Clear, clear_open, light_pen_open}
use Rattle.rules.specs.State.{Regs}
use Rattle.rules.specs.Figure.{cycles}
use Rattle.rules.specs.Refusals.{bad_regs}
use Rattle.gdp.specs.declared.state.Gdp.{Gdp}
use Rattle.gdp.specs.Flat.{named, regs_of, state_of}

-- a number that names nothing, a register out of its range, VB high inside an open frame
unfoldable pub stray : Gdp → Bool
stray b =
    not (named b) || bad_regs (regs_of b) || ((state_of b).vb && (clear_open (state_of b).work || light_pen_open (state_of b).light_pen))

-- a stepping command cannot have come so far
unfoldable pub bad_step : Regs → ℕ → ℕ → Bool
bad_step r c p = leb (cycles r c) p

abbrev pub bad_steps : Regs → Work → Bool
bad_steps r Idle = false
bad_steps r (Steps c p) = bad_step r c p
bad_steps r (Clear f o) = false
