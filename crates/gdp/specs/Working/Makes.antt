-- The form of a statement about a step of a call: from the bytes of a state to the bytes of the next.
-- Assumes nothing.
use Rattle.std.specs.Prelude.{◌≡◌}
use Rattle.rules.specs.State.{State, ready_raises, vb_raises, light_pen_raises}
use Rattle.gdp.specs.declared.state.Gdp.{Gdp}
use Rattle.gdp.specs.declared.bits.Flag.{Flag}
use Rattle.gdp.specs.declared.bits.Flag.TheVariants.{LightPen, Vb, Ready}
use Rattle.gdp.specs.Flat.{flat}

-- b is the bytes of what f makes of the state whose bytes are a
abbrev pub Makes : (State → State) → Gdp → Gdp → Type 0
Makes f a b = (s : State) → a ≡ flat s → b ≡ flat (f s)

-- the signal of a flag rises
abbrev pub raises : Flag → State → State
raises LightPen = light_pen_raises
raises Vb = vb_raises
raises Ready = ready_raises
