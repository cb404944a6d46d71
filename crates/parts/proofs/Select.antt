-- The MSL lines as remainders and shifts of a position.
-- Assumes nothing.
use mathlib.Core.Path.{◌≡◌, ap, ◌∙◌}
use mathlib.Core.Bool.{Bool, not}
use mathlib.Core.List.{[], ◌∷◌}
use Prim.Native.Nat.{ℕ, ◌+◌, ◌*◌, ◌/◌, ◌%◌, ◌^◌}
use native.Mathlib.Nat.{div-one}
use native.Mathlib.Omega.{arith}
use lib.Bits.{bit_xor}
use lib.Dec.{eqb, eqb→eq}
use lib.Pow.{mod-pow-add}
use Rattle.basis.proofs.Table.{passes}
use Rattle.picture.specs.Bit.{digit, bit_at}
use Rattle.picture.proofs.Laws.{bit_digit}
use Rattle.parts.specs.Address.{number}

-- the lowest bit as a number
bit_zero : (v : ℕ) → digit (bit_at 0 v) ≡ v % 2
bit_zero v = bit_digit 0 v ∙ ap (λ (n : ℕ). n % 2) (div-one v)

-- bits 0 to 2 of X, and a fourth line
pub three_and_one : (x : ℕ) (b : Bool) → x % 8 + digit b * 8 ≡ number (bit_at 0 x ∷ bit_at 1 x ∷ bit_at 2 x ∷ b ∷ [])
three_and_one x b =
    rw (mod-pow-add x 2 1, mod-pow-add (x / 2) 1 1, bit_zero x, bit_zero (x / 2), bit_zero (x / 2 / 2)) (omega arith)

-- 15 with bit r turned over, as the code has it
abbrev inverted : ℕ → ℕ
inverted r = bit_xor 15 (1 * 2 ^ r % 256)

-- all four lines are high but line r
abbrev all_but : ℕ → ℕ
all_but r = number (not (eqb r 0) ∷ not (eqb r 1) ∷ not (eqb r 2) ∷ not (eqb r 3) ∷ [])

-- they are the same, by a test that antt computes
pub one_low : (x : ℕ) → inverted (x % 4) ≡ all_but (x % 4)
one_low x = eqb→eq (inverted (x % 4)) (all_but (x % 4)) (passes (λ r. eqb (inverted r) (all_but r)) 4 tt (x % 4) (omega arith))
