-- The window: which dot a position has. Y = 0 is the bottom line.
-- Assumes nothing.
use Rattle.std.specs.Prelude.{◌≡◌, ℕ, ◌+◌, ◌*◌, ◌%◌, ◌^◌, ◌≤◌, Bool, true, false, cond, ◌&&◌, List, [], ◌∷◌, ltb}
use Rattle.picture.specs.declared.screen.Window.{Window}

-- a coordinate as the dot sees it: a cyclic screen of n dots ignores the unused upper bits
abbrev pub folded : Bool → ℕ → ℕ → ℕ
folded true n p = p % n
folded false n p = p

-- the number of the dot (x, y)
abbrev pub dot_number : ℕ → ℕ → ℕ → ℕ
dot_number w x y = y * w + x

-- the dot that a position has: none at or past width or height
unfoldable pub place : Window → ℕ → ℕ → List ℕ
place w x y =
    cond (ltb (folded w.cyclic w.width x) w.width && ltb (folded w.cyclic w.height y) w.height)
    (dot_number w.width (folded w.cyclic w.width x) (folded w.cyclic w.height y) ∷ [])
    []

-- n is a power of two
abbrev pub Power : ℕ → Type 0
Power n = (k : ℕ) × (n ≡ 2 ^ k)

-- a window is held in n bytes, few enough that no sum of the code wraps
pub record Screen (w : Window) (n : ℕ) : Type 0 where
  pub area : w.width * w.height ≡ 8 * n
  pub wide : Power w.width
  pub high : Power w.height
  pub small : n ≤ 65536
