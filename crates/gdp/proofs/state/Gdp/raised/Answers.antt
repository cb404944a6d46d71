-- `gdp::state::Gdp::raised` meets its contract, flag by flag.
-- Assumes nothing.
use mathlib.Core.Path.{◌≡◌}
use Prim.Native.Nat.{ℕ}
use Rattle.picture.specs.Bit.{bit_at}
use Rattle.rules.specs.State.{State, ready_raises, vb_raises, light_pen_raises}
use Rattle.gdp.specs.declared.bits.Flag.{Flag}
use Rattle.gdp.specs.declared.bits.Flag.TheVariants.{LightPen, Vb, Ready}
use Rattle.gdp.specs.declared.state.Gdp.{Gdp}
use Rattle.gdp.specs.Flat.{signals_of, flat}
use Rattle.gdp.specs.Working.Bits.{flag_bit, raise_flag}
use Rattle.gdp.specs.Working.Makes.{raises}
use Rattle.gdp.proofs.Bytes.{light_pen_flag_put, vb_flag_put, ready_flag_put}
use Rattle.gdp.proofs.state.Gdp.raised.Goals as goal

-- the state's `signals` with the flag, where its mask lets it
abbrev raised : Flag → State → ℕ
raised k s = raise_flag (flag_bit k) (bit_at (flag_bit k) s.regs.ctrl1) (signals_of s.vb s.light_pen s.flags)

abbrev put_signals : ℕ → Gdp → Gdp
put_signals g b =
    record {
      x = b.x;
      y = b.y;
      done = b.done;
      ctrl1 = b.ctrl1;
      ctrl2 = b.ctrl2;
      csize = b.csize;
      deltax = b.deltax;
      deltay = b.deltay;
      xlp = b.xlp;
      ylp = b.ylp;
      code = b.code;
      modes = b.modes;
      signals = g;
    }

flag_put : (k : Flag) (s : State) → put_signals (raised k s) (flat s) ≡ flat (raises k s)
unfolding flat ready_raises vb_raises light_pen_raises
flag_put LightPen s = rw (light_pen_flag_put s.vb s.light_pen s.flags (bit_at 4 s.regs.ctrl1))
flag_put Vb s = rw (vb_flag_put s.vb s.light_pen s.flags (bit_at 5 s.regs.ctrl1))
flag_put Ready s = rw (ready_flag_put s.vb s.light_pen s.flags (bit_at 6 s.regs.ctrl1))

pub returns : goal.returns
unfolding flat
returns c s e = simp (c.with_flag.ensures, c.bit_at-mask.ensures, c.bit.ensures.0, e) (flag_put c.args.flag s)
