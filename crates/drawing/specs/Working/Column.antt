-- The cycles of a character's or a block's run that are drawn at once: one cycle, or those of a whole column of the glyph.
-- Assumes nothing.
use Rattle.std.specs.Prelude.{◌≡◌, ℕ, ◌+◌, ◌-◌, ◌*◌, ◌≤◌, ◌<◌, Bool, true, false, List}
use Rattle.picture.specs.Dot.{paint, gathered}
use Rattle.motion.specs.declared.position.Spot.{Spot}
use Rattle.motion.specs.declared.character.Body.{Body}
use Rattle.motion.specs.declared.character.Lie.{Lie}
use Rattle.motion.specs.declared.character.Cell.{Cell}
use Rattle.motion.specs.Character.{lying, along}
use Rattle.motion.specs.Glyph.{inked}
use Rattle.motion.specs.Working.Cells.{Counts, OnPlace}
use Rattle.drawing.specs.declared.tip.Tip.{Tip}
use Rattle.drawing.specs.declared.column.Bands.{Bands}
use Rattle.drawing.specs.Figure.{Cells}
use Rattle.drawing.specs.Run.{dots_from}
use Rattle.drawing.specs.Working.Cycle.{mark_rows}

-- n by m places, the lower left one at (x, y), are in the window, and neither X nor Y steps around within them
pub record Inside (t : Tip) (x y n m : ℕ) : Type 0 where
  pub wide : x + n ≤ t.window.width
  pub high : y + m ≤ t.window.height
  pub right : x + n ≤ 4096
  pub top : y + m ≤ 4096

-- a column of the glyph, all the rows from its cell up by so many dots along, is inside; turned, all the rows to the left of it
abbrev pub FitsBy : Bool → Tip → ℕ → Body → Cell → Type 0
FitsBy false t far b c = Inside t c.at.x c.at.y far b.rows
FitsBy true t far b c = (b.rows ≤ c.at.x + 1) × Inside t ((c.at.x + 1) - b.rows) c.at.y b.rows far

-- it is P dots along, and tilted one more for each row but the first
abbrev pub Fits : Lie → Tip → Body → Cell → Type 0
Fits lie t b c = FitsBy lie.turned t (along lie b.p (b.rows - 1)) b c

-- how a column of the glyph is painted in a window of so many dots a line: turned, tilted
abbrev pub bands_by : Bool → Bool → Body → ℕ → Bands
bands_by false tilted b w =
    let up = along (lying false tilted) w 1 in
    record { dots = b.p; lines = b.q; stride = up; ahead = b.q * up; back = 0; first = 0; times = 1 }
bands_by true false b w = record { dots = b.q; lines = b.p; stride = w; ahead = 0; back = b.q; first = 1; times = 1 }
bands_by true true b w = record { dots = 1; lines = b.q; stride = w - 1; ahead = b.q * (w - 1); back = 0; first = 0; times = b.p }

abbrev pub bands_of : Lie → Body → ℕ → Bands
bands_of lie b w = bands_by lie.turned lie.tilted b w

-- the first dot of a row of the glyph, where the painting goes from dot d on
unfoldable pub band_at : Bands → ℕ → ℕ → ℕ
band_at s d row = (d + row * s.ahead) - (row + 1) * s.back

-- the dots of one row of the glyph, and of all of them
unfoldable pub band_dots : Tip → Bands → List ℕ → ℕ → ℕ → ℕ → List ℕ
band_dots t s glyph column d row = mark_rows t (inked glyph column row) (band_at s d row) s.stride s.dots s.lines

abbrev pub bands_dots : Tip → Bands → List ℕ → ℕ → ℕ → ℕ → List ℕ
bands_dots t s glyph column d rows = gathered (band_dots t s glyph column d) 0 rows

-- so many rows of the glyph, painted from dot d on, are in a picture of so many bytes
pub record Paintable (s : Bands) (d rows size : ℕ) : Type 0 where
  pub some : 0 < s.lines
  pub near : s.stride ≤ 524289
  pub soon : s.ahead ≤ 16 * 524289
  pub back : (row : ℕ) → row < rows → (row + 1) * s.back ≤ d + row * s.ahead
  pub inside : (row : ℕ) → row < rows → (l : ℕ) → l < s.lines → band_at s d row + l * s.stride + s.dots ≤ 8 * size

-- a cell on the first cycle of a column of the glyph that is inside
pub record AtFoot (t : Tip) (lie : Lie) (b : Body) (c : Cell) : Type 0 where
  pub foot : c.v ≡ 0
  pub first : c.columndot ≡ 0
  pub inside : Fits lie t b c

-- such a cell, with all cycles of the column among those left
pub record Whole (t : Tip) (lie : Lie) (b : Body) (c : Cell) (left : ℕ) : Type 0 where
  pub granted : b.p * b.rows ≤ left
  pub column : AtFoot t lie b c

-- the cycles of the column at cell c leave picture q of picture p
abbrev pub Column : Tip → Lie → Body → List ℕ → Cell → List ℕ → List ℕ → Type 0
Column t lie b glyph c p q =
    (start : Spot) → OnPlace lie b start c → q ≡ paint t.lit (dots_from t (Cells lie b) glyph start c.i (b.p * b.rows)) p

-- cell r is some cycles after cell c, none past `end`, and they leave picture q of picture p
pub record Further (t : Tip) (lie : Lie) (b : Body) (glyph : List ℕ) (c r : Cell) (end : ℕ) (p q : List ℕ) : Type 0 where
  pub least : c.i ≤ r.i
  pub most : r.i ≤ end
  pub counts : Counts b r
  pub place : (start : Spot) → OnPlace lie b start c → OnPlace lie b start r
  pub picture : (start : Spot) → OnPlace lie b start c → q ≡ paint t.lit (dots_from t (Cells lie b) glyph start c.i (r.i - c.i)) p
