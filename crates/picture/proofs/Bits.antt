-- The laws of one bit of a number.
-- Assumes nothing.
use mathlib.Core.Path.{◌≡◌, refl, ap, ◌∙◌}
use mathlib.Core.Bool.{Bool, true, false, true≢false, false≢true}
use Prim.Native.Nat.{ℕ, zero, suc, ◌+◌, ◌*◌, ◌/◌, ◌%◌, ◌^◌, ◌<◌, suc-le-suc}
use native.Mathlib.Nat.{pow-suc, le_of_suc-le-suc, not-suc-le-zero, zero-lt-suc, div-one, pow-succ', div-div-eq-div-mul}
use native.Mathlib.Omega.{arith}
use lib.Dec.{eqb}
use Rattle.picture.specs.Bit.{digit, bit_at, with_bit}

pub half_join : (a c : ℕ) → c < 2 → (a * 2 + c) / 2 ≡ a
half_join a c h = omega arith

pub odd_join : (a c : ℕ) → c < 2 → (a * 2 + c) % 2 ≡ c
odd_join a c h = omega arith

rem_two : (v : ℕ) → v % 2 < 2
rem_two v = omega arith

pub digit_lt : (b : Bool) → digit b < 2
digit_lt true = omega arith
digit_lt false = omega arith

digit_test : (b : Bool) → eqb (digit b) 1 ≡ b
digit_test true = refl
digit_test false = refl

-- the bit that was written
pub bit_same : (b : Bool) (k v : ℕ) → bit_at k (with_bit b k v) ≡ b
bit_same b zero v = ap (λ (n : ℕ). eqb n 1) (odd_join (v / 2) (digit b) (digit_lt b)) ∙ digit_test b
bit_same b (suc k) v = ap (bit_at k) (half_join (with_bit b k (v / 2)) (v % 2) (rem_two v)) ∙ bit_same b k (v / 2)

-- every other bit
pub bit_other : (b : Bool) (k j v : ℕ) → (j ≡ k → ⊥) → bit_at j (with_bit b k v) ≡ bit_at j v
bit_other b zero zero v h = absurd (h refl)
bit_other b zero (suc j) v h = ap (bit_at j) (half_join (v / 2) (digit b) (digit_lt b))
bit_other b (suc k) zero v h = ap (λ (n : ℕ). eqb n 1) (odd_join (with_bit b k (v / 2)) (v % 2) (rem_two v))
bit_other b (suc k) (suc j) v h =
    ap (bit_at j) (half_join (with_bit b k (v / 2)) (v % 2) (rem_two v)) ∙ bit_other b k j (v / 2) (λ e. h (ap suc e))

-- a number of n bits keeps to them
pub bit_fits : (b : Bool) (n k v : ℕ) → k < n → v < 2 ^ n → with_bit b k v < 2 ^ n
bit_fits b zero k v hk hv = absurd (not-suc-le-zero hk)
bit_fits b (suc n) zero v hk hv = omega (arith, pow-suc 2 n, digit_lt b)
bit_fits b (suc n) (suc k) v hk hv =
    omega (arith, pow-suc 2 n, bit_fits b n k (v / 2) (le_of_suc-le-suc hk) (omega (arith, pow-suc 2 n)))

low_eq : (a b : ℕ) → a < 2 → b < 2 → eqb a 1 ≡ eqb b 1 → a ≡ b
low_eq zero zero ha hb e = refl
low_eq zero (suc zero) ha hb e = absurd (false≢true e)
low_eq (suc zero) zero ha hb e = absurd (true≢false e)
low_eq (suc zero) (suc zero) ha hb e = refl
low_eq (suc (suc a)) b ha hb e = absurd (not-suc-le-zero (le_of_suc-le-suc (le_of_suc-le-suc ha)))
low_eq zero (suc (suc b)) ha hb e = absurd (not-suc-le-zero (le_of_suc-le-suc (le_of_suc-le-suc hb)))
low_eq (suc zero) (suc (suc b)) ha hb e = absurd (not-suc-le-zero (le_of_suc-le-suc (le_of_suc-le-suc hb)))

-- numbers of n bits that have the same bits are the same
pub bit_ext : (n v w : ℕ) → v < 2 ^ n → w < 2 ^ n → ((k : ℕ) → k < n → bit_at k v ≡ bit_at k w) → v ≡ w
bit_ext zero v w hv hw same = omega arith
bit_ext (suc n) v w hv hw same =
    omega (
      arith,
      low_eq (v % 2) (w % 2) (rem_two v) (rem_two w) (same 0 (zero-lt-suc n)),
      bit_ext n (v / 2) (w / 2) (omega (arith, pow-suc 2 n)) (omega (arith, pow-suc 2 n)) (λ k h. same (suc k) (suc-le-suc h)),
    )

-- a bit by a shift
pub bit_shift : (k v : ℕ) → bit_at k v ≡ eqb (v / 2 ^ k % 2) 1
bit_shift zero v = rw (div-one v)
bit_shift (suc k) v = bit_shift k (v / 2) ∙ rw (pow-succ' 2 k, ← div-div-eq-div-mul v 2 (2 ^ k))

low_digit : (a : ℕ) → a < 2 → digit (eqb a 1) ≡ a
low_digit zero h = refl
low_digit (suc zero) h = refl
low_digit (suc (suc a)) h = absurd (not-suc-le-zero (le_of_suc-le-suc (le_of_suc-le-suc h)))

-- a bit as a number
pub bit_digit : (k v : ℕ) → digit (bit_at k v) ≡ v / 2 ^ k % 2
bit_digit k v = ap digit (bit_shift k v) ∙ low_digit (v / 2 ^ k % 2) (omega arith)

-- writing the bit that is there changes nothing
pub bit_keep : (b : Bool) (k v : ℕ) → bit_at k v ≡ b → with_bit b k v ≡ v
bit_keep b zero v e = omega (arith, ap digit e, low_digit (v % 2) (rem_two v))
bit_keep b (suc k) v e = omega (arith, bit_keep b k (v / 2) e)
