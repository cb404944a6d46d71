-- The cycles of a run as the loops go about them, by X and by Y.
-- Assumes nothing.
use Rattle.std.specs.Prelude.{ℕ, ◌+◌, ◌≤◌, ◌<◌, Bool, cond, ◌&&◌, List, []}
use Rattle.picture.specs.Working.Runs.{rows_from}
use Rattle.motion.specs.declared.vector.Line.{Line}
use Rattle.motion.specs.Position.{ahead}
use Rattle.motion.specs.LineType.{line_on}
use Rattle.motion.specs.Vector.{vector_x, vector_y}
use Rattle.drawing.specs.declared.tip.Tip.{Tip}
use Rattle.drawing.specs.declared.tip.Run.{Run}
use Rattle.drawing.specs.Figure.{Figure, cycles_of}
use Rattle.drawing.specs.Run.{mark}

-- a figure has the cycles of a run, and the run begins at a place
pub record Granted (f : Figure) (run : Run) : Type 0 where
  pub some : run.from < cycles_of f
  pub most : run.from + run.count ≤ cycles_of f
  pub x : run.at.x < 4096
  pub y : run.at.y < 4096

-- the dots of cycles that are on alike, m rows of n: the first from dot d on, each so many dots after the one before
unfoldable pub mark_rows : Tip → Bool → ℕ → ℕ → ℕ → ℕ → List ℕ
mark_rows t on d stride n m = cond (t.down && on) (rows_from d stride n m) []

-- dot i of a vector that starts at (x₀, y₀), by the line type of CTRL2
unfoldable pub vector_dot : Tip → ℕ → Line → ℕ → ℕ → ℕ → List ℕ
vector_dot t ctrl2 l x₀ y₀ i = mark t (line_on ctrl2 i) (ahead x₀ (vector_x l i)) (ahead y₀ (vector_y l i))
