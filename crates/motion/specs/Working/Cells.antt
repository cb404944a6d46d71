-- A character's cell as the code steps it.
-- Assumes nothing.
use Rattle.std.specs.Prelude.{◌≡◌, ℕ, ◌*◌, ◌/◌, ◌%◌, ◌≤◌, ◌<◌}
use Rattle.motion.specs.declared.position.Spot.{Spot}
use Rattle.motion.specs.declared.character.Body.{Body}
use Rattle.motion.specs.declared.character.Lie.{Lie}
use Rattle.motion.specs.declared.character.Cell.{Cell}
use Rattle.motion.specs.Position.{moved}
use Rattle.motion.specs.Character.{scale_p, scale_q, u_of, v_of, column_of, row_of, body_way}

-- the body of a CSIZE that is so many times P wide and so many times Q high
abbrev pub body_by : ℕ → ℕ → ℕ → Body
body_by csize wide high =
    record { p = scale_p csize; q = scale_q csize; columns = wide * scale_p csize; rows = high * scale_q csize }

-- sizes that CSIZE can give: each row of the glyph is Q rows of dots
pub record Sized (b : Body) : Type 0 where
  pub p0 : 0 < b.p
  pub p16 : b.p ≤ 16
  pub q0 : 0 < b.q
  pub q16 : b.q ≤ 16
  pub rows0 : 0 < b.rows
  pub rows128 : b.rows ≤ 128
  pub glyph_rows : b.rows ≡ b.rows / b.q * b.q

-- the counters of a cell are those of its cycle
pub record Counts (b : Body) (c : Cell) : Type 0 where
  pub v : c.v ≡ v_of b c.i
  pub row : c.row ≡ row_of b c.i
  pub rowdot : c.rowdot ≡ v_of b c.i % b.q
  pub column : c.column ≡ column_of b c.i
  pub columndot : c.columndot ≡ u_of b c.i % b.p

-- c stands on the place of its cycle, of a character that starts at a place
abbrev pub OnPlace : Lie → Body → Spot → Cell → Type 0
OnPlace lie b start c = c.at ≡ moved start (body_way lie b c.i)
