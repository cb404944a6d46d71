-- What a command draws, by its write cycles, counted from 0: a figure, wherever it starts. Which of a character's cycles write
-- is its glyph's business.
-- Assumes nothing.
use Rattle.std.specs.Prelude.{ℕ, Bool, false, List}
use Rattle.motion.specs.declared.position.Spot.{Spot}
use Rattle.motion.specs.declared.vector.Line.{Line}
use Rattle.motion.specs.declared.character.Body.{Body}
use Rattle.motion.specs.declared.character.Lie.{Lie}
use Rattle.motion.specs.Position.{spot}
use Rattle.motion.specs.LineType.{line_on}
use Rattle.motion.specs.Vector.{vector_cycles, vector_x, vector_y}
use Rattle.motion.specs.Character.{body_cycles, body_way, body_end, column_of, row_of}
use Rattle.motion.specs.Glyph.{inked}

-- a vector with the line type of CTRL2; a character's or block's body, by how letters lie; one cycle without a dot; no cycle
pub data Figure : Type 0 where
  Stroke : ℕ → Line → Figure
  Cells : Lie → Body → Figure
  Pause : Figure
  Nothing : Figure

-- its cycles: M + 1, columns × rows, one
unfoldable pub cycles_of : Figure → ℕ
cycles_of (Stroke ctrl2 l) = vector_cycles l
cycles_of (Cells lie b) = body_cycles b
cycles_of Pause = 1
cycles_of Nothing = 0

-- from its start to the place of cycle i, as what is added modulo 4,096
unfoldable pub way : Figure → ℕ → Spot
way (Stroke ctrl2 l) i = spot (vector_x l i) (vector_y l i)
way (Cells lie b) i = body_way lie b i
way Pause i = spot 0 0
way Nothing i = spot 0 0

-- from its start to where it leaves X and Y: a vector's last dot; past the last column of a character
unfoldable pub end_way : Figure → Spot
end_way (Stroke ctrl2 l) = spot (vector_x l l.long) (vector_y l l.long)
end_way (Cells lie b) = body_end lie b
end_way Pause = spot 0 0
end_way Nothing = spot 0 0

-- cycle i writes: by the line type; where the glyph has the dot (u / P, v / Q)
unfoldable pub writes : Figure → List ℕ → ℕ → Bool
writes (Stroke ctrl2 l) glyph i = line_on ctrl2 i
writes (Cells lie b) glyph i = inked glyph (column_of b i) (row_of b i)
writes Pause glyph i = false
writes Nothing glyph i = false
