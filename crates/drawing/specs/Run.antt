-- The dots of a run of cycles, and the place after it, by the closed forms from the figure's start.
-- Assumes nothing.
use Rattle.std.specs.Prelude.{◌≡◌, ℕ, ◌+◌, Bool, cond, ◌&&◌, List, [], ltb}
use Rattle.picture.specs.Dot.{paint, gathered}
use Rattle.picture.specs.Screen.{place}
use Rattle.motion.specs.declared.position.Spot.{Spot}
use Rattle.motion.specs.Position.{moved, moved_back}
use Rattle.drawing.specs.declared.tip.Tip.{Tip}
use Rattle.drawing.specs.declared.tip.Run.{Run}
use Rattle.drawing.specs.Figure.{Figure, cycles_of, way, end_way, writes}

-- the start of a figure whose cycle i is at a place
unfoldable pub start_of : Figure → ℕ → Spot → Spot
start_of f i at = moved_back at (way f i)

-- the place of cycle i of a figure that starts at a place
unfoldable pub place_of : Figure → Spot → ℕ → Spot
place_of f start i = moved start (way f i)

-- where X and Y stand when i cycles are used: on the place of the next, or where the figure leaves them
unfoldable pub rest_of : Figure → Spot → ℕ → Spot
rest_of f start i = cond (ltb i (cycles_of f)) (place_of f start i) (moved start (end_way f))

-- the dot of a cycle that is on, at a place; none where the tip is up
unfoldable pub mark : Tip → Bool → ℕ → ℕ → List ℕ
mark t on x y = cond (t.down && on) (place t.window x y) []

-- the dot that cycle i writes, if any
unfoldable pub dot_of : Tip → Figure → List ℕ → Spot → ℕ → List ℕ
dot_of t f glyph start i = mark t (writes f glyph i) (place_of f start i).x (place_of f start i).y

-- the dots of the k cycles from cycle i on
unfoldable pub dots_from : Tip → Figure → List ℕ → Spot → ℕ → ℕ → List ℕ
dots_from t f glyph start i k = gathered (dot_of t f glyph start) i k

-- a run leaves picture q of picture p, and X and Y at place s
pub record Ran (t : Tip) (f : Figure) (glyph : List ℕ) (run : Run) (s : Spot) (p q : List ℕ) : Type 0 where
  pub rests : s ≡ rest_of f (start_of f run.from run.at) (run.from + run.count)
  pub picture : q ≡ paint t.lit (dots_from t f glyph (start_of f run.from run.at) run.from run.count) p
