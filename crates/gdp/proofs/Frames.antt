-- VB and the frames of a clear and of the light pen, by the bytes.
-- Assumes nothing.
use mathlib.Core.Path.{◌≡◌, refl}
use Prim.Native.Nat.{ℕ, ◌+◌, ◌/◌}
use mathlib.Core.Bool.{Bool, true, false, ◌&&◌}
use mathlib.Core.List.{List}
use lib.Dec.{leb}
use Rattle.basis.proofs.Cases.{and_parts}
use Rattle.picture.specs.Bit.{bit_at}
use Rattle.picture.specs.Dot.{whole}
use Rattle.parts.specs.Format.{frames}
use Rattle.rules.specs.Sequence.{light_pen_open}
use Rattle.rules.specs.State.{State}
use Rattle.rules.specs.Cycles.{lights}
use Rattle.rules.specs.Blanking.{fallen, ends_clear, risen, after_vb, picture_vb}
use Rattle.gdp.specs.declared.state.Gdp.{Gdp}
use Rattle.gdp.specs.Flat.{light_pen_at, work_in, light_pen_in, flat, format_of, regs_of, frames_in, state_of}
use Rattle.gdp.specs.Calls.{Blanks}
use Rattle.gdp.specs.Working.Bits.{clear_open_in}
use Rattle.gdp.proofs.Packing.{light_pen_at_lem, light_pen_part}
use Rattle.gdp.proofs.ClearBytes.{clear_last, clear_lit}
use Rattle.gdp.proofs.Told.{vb_code, vb_accepted}

-- the pen's open frame, and a clear's last one, as the bytes show them
pub light_pen_seen : (s : State) {b : Gdp} → b ≡ flat s → light_pen_open s.light_pen ≡ light_pen_open (light_pen_at (light_pen_in b.signals))
unfolding flat
light_pen_seen s e = rw (e, light_pen_part s.vb s.light_pen s.flags, light_pen_at_lem s.light_pen) refl

pub clear_seen : (b : Gdp) → (clear_open_in b.modes && leb (frames (format_of b)) (b.modes / 128 + 1)) ≡ ends_clear (state_of b)
unfolding state_of
clear_seen b = clear_last b.modes b.code b.done (bit_at 5 b.modes)

-- while VB is low, a rise changes the picture where a clear is in its last frame, and nowhere else
pub clear_paints : (b : Gdp) (picture : List ℕ) → bit_at 1 b.signals ≡ false → ends_clear (state_of b) ≡ true
    → whole (bit_at 5 b.modes && lights (regs_of b)) picture ≡ picture_vb (state_of b) true picture
unfolding picture_vb state_of
clear_paints b picture v o =
    rw (v, o, clear_lit (work_in b.modes) b.code b.done (bit_at 5 b.modes) (frames_in b.modes) _ (and_parts _ _ o).0) refl

pub clear_keeps : (b : Gdp) (picture : List ℕ) → bit_at 1 b.signals ≡ false → ends_clear (state_of b) ≡ false
    → picture ≡ picture_vb (state_of b) true picture
unfolding picture_vb state_of
clear_keeps b picture v o = rw (v, o) refl

-- the present level changes nothing; a fall opens frames; a rise ends them
module _ (b : Gdp) (picture : List ℕ) (zero : vb_code b picture ≡ 0) where
  pub vb_same : {level : Bool} → bit_at 1 b.signals ≡ level
      → Blanks b level picture (record { number = 0; value = 0; state = flat (state_of b) }) picture
  unfolding after_vb picture_vb state_of
  vb_same {level = true} v = vb_accepted b true picture zero (rw v refl) (rw v refl)
  vb_same {level = false} v = vb_accepted b false picture zero (rw v refl) (rw v refl)

  pub vb_falls : {level : Bool} → bit_at 1 b.signals ≡ true → level ≡ false
      → Blanks b level picture (record { number = 0; value = 0; state = flat (fallen (state_of b)) }) picture
  unfolding after_vb picture_vb state_of
  vb_falls {level} v l = vb_accepted b level picture zero (rw (v, l) refl) (rw v refl)

  pub vb_rises : {level : Bool} → bit_at 1 b.signals ≡ false → level ≡ true → {p : List ℕ} → p ≡ picture_vb (state_of b) true picture
      → Blanks b level picture (record { number = 0; value = 0; state = flat (risen (state_of b)) }) p
  unfolding after_vb state_of
  vb_rises {level} v l h = vb_accepted b level picture zero (rw (v, l) refl) (rw l h)
