-- The character table: 96 glyphs from code 20, five bytes each, left column first, bit 0 the bottom row.
-- Assumes nothing.
use Rattle.std.specs.Prelude.{ℕ, ◌-◌, ◌*◌, ◌%◌, Bool, ◌&&◌, List, ltb, take, drop, get_or, replicate}
use Rattle.picture.specs.Bit.{bit_at}

-- the five bytes of a code: the part of the table that starts at five times the code less 32
unfoldable pub glyph_of : List ℕ → ℕ → List ℕ
glyph_of table code = take 5 (drop (5 * (code - 32)) table)

-- the glyph of 0A, and of the block 0B: every dot
unfoldable pub solid_glyph : List ℕ
solid_glyph = replicate 5 255

-- a glyph has the dot of a column and a row; there are five columns
unfoldable pub inked : List ℕ → ℕ → ℕ → Bool
inked part column row = ltb column 5 && bit_at (row % 8) (get_or part column 0)
