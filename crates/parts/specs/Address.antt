-- The address outputs, ALL high: which bit of X or Y stands on each line. DAD0 and MSL0 are the lowest bits.
-- Assumes nothing.
use Rattle.std.specs.Prelude.{ℕ, ◌+◌, ◌*◌, ◌%◌, Bool, true, not, List, [], ◌∷◌, map, eqb}
use Rattle.picture.specs.Bit.{digit, bit_at}
use Rattle.parts.specs.declared.format.Format.{Format}
use Rattle.parts.specs.declared.format.Format.TheVariants.{Ef9366, FmatHigh, FmatLow}
use Rattle.parts.specs.declared.address.Address.{Address}

-- a line carries a bit of X, a bit of Y, or is high
pub data Pin : Type 0 where
  X : ℕ → Pin
  Y : ℕ → Pin
  up : Pin

abbrev pub level : ℕ → ℕ → Pin → Bool
level x y (X k) = bit_at k x
level x y (Y k) = bit_at k y
level x y up = true

-- the number on some lines, the lowest first
abbrev pub number : List Bool → ℕ
number [] = 0
number (b ∷ bs) = digit b + 2 * number bs

-- DAD0 to DAD6 while CK is low
abbrev pub low_pins : Format → List Pin
low_pins Ef9366 = X 8 ∷ X 7 ∷ X 6 ∷ X 5 ∷ X 4 ∷ X 3 ∷ Y 0 ∷ []
low_pins FmatHigh = X 8 ∷ X 7 ∷ X 6 ∷ X 5 ∷ X 4 ∷ X 3 ∷ Y 1 ∷ []
low_pins FmatLow = X 7 ∷ X 6 ∷ X 5 ∷ X 4 ∷ X 3 ∷ X 2 ∷ Y 0 ∷ []

-- DAD0 to DAD6 while CK is high
abbrev pub high_pins : Format → List Pin
high_pins Ef9366 = Y 7 ∷ Y 6 ∷ Y 5 ∷ Y 4 ∷ Y 3 ∷ Y 2 ∷ Y 1 ∷ []
high_pins FmatHigh = Y 8 ∷ Y 7 ∷ Y 6 ∷ Y 5 ∷ Y 4 ∷ Y 3 ∷ Y 0 ∷ []
high_pins FmatLow = Y 7 ∷ Y 6 ∷ Y 5 ∷ Y 4 ∷ Y 3 ∷ Y 2 ∷ Y 1 ∷ []

-- MSL0 to MSL3; with FMAT low, line k is low exactly when X mod 4 = k
abbrev pub msl_lines : Format → ℕ → ℕ → List Bool
msl_lines Ef9366 x y = map (level x y) (X 0 ∷ X 1 ∷ X 2 ∷ up ∷ [])
msl_lines FmatHigh x y = map (level x y) (X 0 ∷ X 1 ∷ X 2 ∷ Y 2 ∷ [])
msl_lines FmatLow x y = not (eqb (x % 4) 0) ∷ not (eqb (x % 4) 1) ∷ not (eqb (x % 4) 2) ∷ not (eqb (x % 4) 3) ∷ []

-- the outputs for a position
unfoldable pub address_of : Format → ℕ → ℕ → Address
address_of f x y =
    record {
      low = number (map (level x y) (low_pins f));
      high = number (map (level x y) (high_pins f));
      msl = number (msl_lines f x y);
    }
