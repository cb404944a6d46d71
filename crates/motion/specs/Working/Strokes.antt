-- A vector's stroke as the code steps it.
-- Assumes nothing.
use Rattle.std.specs.Prelude.{◌≡◌, ℕ, ◌+◌, ◌*◌, ◌%◌, ◌≤◌, min}
use Rattle.motion.specs.declared.vector.Line.{Line}
use Rattle.motion.specs.declared.vector.Stroke.{Stroke}
use Rattle.motion.specs.Position.{ahead}
use Rattle.motion.specs.Vector.{vector_x, vector_y}

-- what `offset` divides, and what its division leaves: by that the code steps without dividing
abbrev pub dividend : ℕ → ℕ → ℕ → ℕ
dividend M m i = 2 * i * m + M

unfoldable pub error_of : ℕ → ℕ → ℕ → ℕ
error_of M m i = dividend M m i % (2 * M)

-- lengths are bytes, and the smaller is not the larger
pub record Lengths (l : Line) : Type 0 where
  pub order : l.short ≤ l.long
  pub small : l.long ≤ 255

-- s stands on its dot of the vector that starts at (x₀, y₀); past the last dot it stays on the last
pub record OnDot (l : Line) (x₀ y₀ : ℕ) (s : Stroke) : Type 0 where
  pub x : s.x ≡ ahead x₀ (vector_x l (min s.i l.long))
  pub y : s.y ≡ ahead y₀ (vector_y l (min s.i l.long))
  pub error : s.error ≡ error_of l.long l.short (min s.i l.long)
