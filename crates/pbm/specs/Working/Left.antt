-- What is left of a file.
-- Assumes nothing.
use Rattle.std.specs.Prelude.{ℕ, zero, suc, false, List, drop}
use Rattle.pbm.specs.Contents.{passed}

-- behind the next n signs
unfoldable pub behind : ℕ → List ℕ → List ℕ
behind zero s = s
behind (suc n) s = behind n (drop 1 (passed false s))
