-- A picture is a list of bytes. A dot has a number: dot d is bit d % 8 of byte d / 8, and a lit dot is 1.
-- Assumes nothing.
use Rattle.std.specs.Prelude.{ℕ, zero, suc, ◌/◌, ◌%◌, ◌<◌, Bool, true, false, ◌||◌, List, [], ◌∷◌, ◌++◌, eqb, length, get_or, set, replicate}
use Rattle.picture.specs.Bit.{bit_at, with_bit}

-- dot d is lit
unfoldable pub dot_at : List ℕ → ℕ → Bool
dot_at pic d = bit_at (d % 8) (get_or pic (d / 8) 0)

-- dot d lit or darkened
unfoldable pub set_dot : Bool → ℕ → List ℕ → List ℕ
set_dot lit d pic = set pic (d / 8) (with_bit lit (d % 8) (get_or pic (d / 8) 0))

-- the dots of a list lit or darkened, one after the other
abbrev pub paint : Bool → List ℕ → List ℕ → List ℕ
paint lit [] pic = pic
paint lit (d ∷ ds) pic = paint lit ds (set_dot lit d pic)

-- the dots of the k steps from step i on, where step i writes the dots `dot i`
abbrev pub gathered : (ℕ → List ℕ) → ℕ → ℕ → List ℕ
gathered dot i zero = []
gathered dot i (suc k) = dot i ++ gathered dot (suc i) k

-- d is in the list
abbrev pub has : ℕ → List ℕ → Bool
has d [] = false
has d (e ∷ es) = eqb d e || has d es

-- every byte is below 256
abbrev pub Bytes : List ℕ → Type 0
Bytes pic = (i : ℕ) → get_or pic i 0 < 256

-- a byte of eight dots alike
abbrev pub solid : Bool → ℕ
solid true = 255
solid false = 0

-- the whole picture lit or dark
abbrev pub whole : Bool → List ℕ → List ℕ
whole lit pic = replicate (length pic) (solid lit)
