-- A text in pieces: lines ended by line feeds, fields parted by tabs.
-- Assumes nothing.
use Rattle.std.specs.Prelude.{ℕ, cond, List, [], ◌∷◌, eqb}

abbrev pub tab : ℕ
tab = 9

abbrev pub line_feed : ℕ
line_feed = 10

-- a byte put before the first of some pieces
unfoldable pub attached : ℕ → List (List ℕ) → List (List ℕ)
attached b [] = (b ∷ []) ∷ []
attached b (l ∷ ls) = (b ∷ l) ∷ ls

-- the lines of a text: a line feed ends one; the last may be missing
unfoldable pub lines_of : List ℕ → List (List ℕ)
lines_of [] = []
lines_of (b ∷ bs) = cond (eqb b line_feed) ([] ∷ lines_of bs) (attached b (lines_of bs))

-- the fields of a line, parted by tabs
unfoldable pub fields_of : List ℕ → List (List ℕ)
fields_of [] = [] ∷ []
fields_of (b ∷ bs) = cond (eqb b tab) ([] ∷ fields_of bs) (attached b (fields_of bs))
