-- Counting up by one, with a quotient and a remainder: the remainder grows until it is full, and then the quotient does.
-- Assumes nothing.
use mathlib.Core.Path.{◌≡◌, sym, ap, ◌∙◌}
use Prim.Native.Nat.{ℕ, ◌+◌, ◌*◌, ◌/◌, ◌%◌, ◌≤◌, ◌<◌}
use native.Mathlib.Nat.{div-add-mod', mod-lt, add-mul, one-mul, zero-div, zero-mod, div-le_self, mod-le}
use native.Mathlib.Omega.{arith}
use lib.Arith.{digits_div, digits_mod}

-- n by d is q, and leaves r
pub record Splits (n d q r : ℕ) : Type 0 where
  pub quotient : q ≡ n / d
  pub rest : r ≡ n % d

-- q times d and r more, r below d, is such a number
pub splits : {n d r : ℕ} (q : ℕ) → r < d → n ≡ q * d + r → Splits n d q r
splits {n} {d} {r} q h e =
    record {
      quotient = sym (ap (λ (m : ℕ). m / d) e ∙ digits_div q h);
      rest = sym (ap (λ (m : ℕ). m % d) e ∙ digits_mod q h);
    }

-- nothing
pub split_none : (d : ℕ) → Splits 0 d 0 0
split_none d = record { quotient = sym (zero-div d); rest = sym (zero-mod d) }

module _ {n d q r : ℕ} (s : Splits n d q r) where
  -- the number is the quotient times d and the remainder
  pub whole : n ≡ q * d + r
  whole = omega (arith, div-add-mod' n d, ap (λ (m : ℕ). m * d) s.quotient)

  -- short of d the remainder is one more
  pub split_within : r + 1 < d → Splits (n + 1) d q (r + 1)
  split_within h = splits q h (omega (arith, whole))

  -- at d the quotient is one more, and the remainder starts again
  pub split_over : 0 < d → d ≤ r + 1 → Splits (n + 1) d (q + 1) 0
  split_over z h =
      let more : (q + 1) * d ≡ q * d + d = simp (add-mul, one-mul) in
      splits (q + 1) z (omega (arith, whole, mod-lt n z, more))

  -- neither is more than the number
  pub split_le : (q ≤ n) × (r ≤ n)
  split_le = (omega (arith, div-le_self n d), omega (arith, mod-le n d))
