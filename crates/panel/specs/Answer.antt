-- The lines that the panel writes.
-- Assumes nothing.
use Rattle.std.specs.Prelude.{ℕ, ◌/◌, ◌%◌, cond, List, [], ◌∷◌, ◌++◌, eqb}
use Rattle.text.specs.Pieces.{tab, line_feed}
use Rattle.text.specs.Numbers.{hex_digit, decimal}

-- G, 9366
unfoldable pub line_g : List ℕ
line_g = 71 ∷ tab ∷ 57 ∷ 51 ∷ 54 ∷ 54 ∷ line_feed ∷ []

-- R, address, two-digit hex value
unfoldable pub line_r : ℕ → ℕ → List ℕ
line_r a v = 82 ∷ tab ∷ hex_digit a ∷ tab ∷ hex_digit (v / 16 % 16) ∷ hex_digit (v % 16) ∷ line_feed ∷ []

-- T, cycles used
unfoldable pub line_t : ℕ → List ℕ
line_t n = 84 ∷ tab ∷ (decimal n ++ (line_feed ∷ []))

-- E, line number, refusal number
unfoldable pub line_e : ℕ → ℕ → List ℕ
line_e k n = 69 ∷ tab ∷ (decimal k ++ (tab ∷ (decimal n ++ (line_feed ∷ []))))

-- P, x, y
unfoldable pub line_p : ℕ → ℕ → List ℕ
line_p x y = 80 ∷ tab ∷ (decimal x ++ (tab ∷ (decimal y ++ (line_feed ∷ []))))

-- a call's answer to line k: nothing more than E where it is refused
unfoldable pub answered : ℕ → ℕ → List ℕ → List ℕ
answered k number text = cond (eqb number 0) text (line_e k number)
