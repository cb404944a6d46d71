-- The bits of a number, counted from 0, the lowest.
-- Assumes nothing.
use Rattle.std.specs.Prelude.{ℕ, zero, suc, ◌+◌, ◌*◌, ◌/◌, ◌%◌, Bool, true, false, eqb}

abbrev pub digit : Bool → ℕ
digit true = 1
digit false = 0

-- bit k of v
abbrev pub bit_at : ℕ → ℕ → Bool
bit_at zero v = eqb (v % 2) 1
bit_at (suc k) v = bit_at k (v / 2)

-- v with bit k made b
abbrev pub with_bit : Bool → ℕ → ℕ → ℕ
with_bit b zero v = v / 2 * 2 + digit b
with_bit b (suc k) v = with_bit b k (v / 2) * 2 + v % 2
