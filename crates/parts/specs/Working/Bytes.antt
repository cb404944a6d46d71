-- Bytes whose bits the address lines show from the top down.
-- Assumes nothing.
use Rattle.std.specs.Prelude.{ℕ, ◌<◌, ◌≡◌, Bool, List, [], ◌∷◌, ◌++◌, map, take}
use Rattle.picture.specs.Bit.{bit_at}
use Rattle.parts.specs.declared.format.Format.{Format}
use Rattle.parts.specs.declared.address.Wiring.{Wiring}
use Rattle.parts.specs.Address.{level, number, low_pins, high_pins, msl_lines}

-- bits 7 to 0
abbrev pub down : ℕ → List Bool
down b = bit_at 7 b ∷ bit_at 6 b ∷ bit_at 5 b ∷ bit_at 4 b ∷ bit_at 3 b ∷ bit_at 2 b ∷ bit_at 1 b ∷ bit_at 0 b ∷ []

-- what stands on the format's lines: while CK is low the six highest bits of X's byte and the lowest of Y's, while it is high
-- the six highest of Y's and `dad6`, which is one bit; and MSL
pub record Wired (f : Format) (x y : ℕ) (w : Wiring) : Type 0 where
  pub low : map (level x y) (low_pins f) ≡ take 6 (down w.x) ++ (bit_at 0 w.y ∷ [])
  pub high : map (level x y) (high_pins f) ≡ take 6 (down w.y) ++ (bit_at 0 w.dad6 ∷ [])
  pub bit : w.dad6 < 2
  pub msl : w.msl ≡ number (msl_lines f x y)
