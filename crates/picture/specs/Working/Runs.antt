-- Runs of dots and rows of them, which the code paints by bytes.
-- Assumes nothing.
use Rattle.std.specs.Prelude.{ℕ, zero, suc, ◌+◌, ◌*◌, Bool, List, [], ◌∷◌}
use Rattle.picture.specs.Bit.{with_bit}
use Rattle.picture.specs.Dot.{gathered}

-- v with the m bits from bit k on made b
abbrev pub with_bits : Bool → ℕ → ℕ → ℕ → ℕ
with_bits b k zero v = v
with_bits b k (suc m) v = with_bits b (suc k) m (with_bit b k v)

-- the n dots from dot d on
abbrev pub up_from : ℕ → ℕ → List ℕ
up_from d n = gathered (λ e. e ∷ []) d n

-- m rows of n dots, the first from dot d on, each so many dots after the one before
abbrev pub rows_from : ℕ → ℕ → ℕ → ℕ → List ℕ
rows_from d stride n m = gathered (λ r. up_from (d + r * stride) n) 0 m
