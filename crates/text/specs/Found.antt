-- A search: the first place of a byte, or the end.
-- Assumes nothing.
use Rattle.std.specs.Prelude.{◌≡◌, ℕ, ◌≤◌, ◌<◌, List, length, get_or}

pub record Found (s : List ℕ) (from b r : ℕ) : Type 0 where
  pub low : from ≤ r
  pub high : r ≤ length s
  pub none : (k : ℕ) → from ≤ k → k < r → get_or s k 0 ≡ b → ⊥
  pub here : r < length s → get_or s r 0 ≡ b
