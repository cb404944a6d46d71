-- Text written into a lent buffer, one piece behind the other.
-- Assumes nothing.
use Rattle.std.specs.Prelude.{◌≡◌, ℕ, ◌+◌, List, ◌++◌, length, take, drop}

-- text stands behind the first `at` bytes of buffer a, which stay, and makes it buffer b; r is the place behind it, from which
-- the bytes stay too
pub record Wrote (a : List ℕ) (at : ℕ) (text b : List ℕ) (r : ℕ) : Type 0 where
  pub end : r ≡ at + length text
  pub size : length b ≡ length a
  pub bytes : take r b ≡ take at a ++ text
  pub rest : drop r b ≡ drop r a
