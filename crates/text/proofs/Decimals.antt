-- The laws of a number in decimal.
-- Assumes nothing.
use mathlib.Core.Path.{◌≡◌, refl, sym, ◌∙◌}
use mathlib.Core.Logic.{⊎_elim}
use mathlib.Core.List.{[], ◌∷◌, ◌++◌, append_assoc}
use Prim.Native.Nat.{ℕ, zero, suc, ◌+◌, ◌-◌, ◌/◌, ◌%◌, ◌^◌, ◌≤◌, ◌<◌}
use native.Mathlib.Nat.{pow-suc}
use native.Mathlib.Omega.{arith}
use lib.ListN.{length, length-append}
use borrow.Author.Tests.{lt-ltb, le-ltb}
use Rattle.text.specs.Numbers.{decimal_by, decimal}
use Rattle.basis.proofs.Cases.{less}

-- a number below 10 is one digit
last_digit : (k n : ℕ) → n < 10 → decimal_by (suc k) n ≡ (48 + n) ∷ []
unfolding decimal_by
last_digit k n h = rw (lt-ltb n 10 h)

-- any other has its last digit behind those of its tenth
more_digits : (k n : ℕ) → 10 ≤ n → decimal_by (suc k) n ≡ decimal_by k (n / 10) ++ ((48 + n % 10) ∷ [])
unfolding decimal_by
more_digits k n h = rw (le-ltb n 10 h)

-- a number has no more than n + 1 digits, however many are allowed
digits_enough : (j k n : ℕ) → n ≤ j → n ≤ k → decimal_by (suc j) n ≡ decimal_by (suc k) n
digits_enough zero k n h l = last_digit 0 n (omega arith) ∙ sym (last_digit k n (omega arith))
digits_enough (suc j) zero n h l = last_digit (suc j) n (omega arith) ∙ sym (last_digit 0 n (omega arith))
digits_enough (suc j) (suc k) n h l =
    ⊎_elim
    (λ s. last_digit (suc j) n s ∙ sym (last_digit (suc k) n s))
    (λ s. more_digits (suc j) n s ∙ rw (digits_enough j k (n / 10) (omega arith) (omega arith)) (sym (more_digits (suc k) n s)))
    (less n 10)

-- a number below 10 ^ (k + 1) has at most k + 1 digits
digits_most : (j k n : ℕ) → n < 10 ^ suc k → length (decimal_by j n) ≤ suc k
unfolding decimal_by
digits_most zero k n h = omega arith
digits_most (suc j) zero n h = rw (last_digit j n h) (omega arith)
digits_most (suc j) (suc k) n h =
    ⊎_elim
    (λ s. rw (last_digit j n s) (omega arith))
    (λ s. rw (more_digits j n s, length-append) (omega (arith, digits_most j k (n / 10) (omega (arith, pow-suc 10 (suc k))))))
    (less n 10)

module _ (n : ℕ) where
  -- one digit
  pub decimal_one : n < 10 → decimal n ≡ (48 + n) ∷ []
  unfolding decimal
  decimal_one h = last_digit n n h

  -- and one digit more
  pub decimal_more : 10 ≤ n → decimal n ≡ decimal (n / 10) ++ ((48 + n % 10) ∷ [])
  unfolding decimal
  decimal_more h =
      digits_enough n (suc (n - 1)) n (omega arith) (omega arith)
      ∙ more_digits (suc (n - 1)) n h
      ∙ rw (digits_enough (n - 1) (n / 10) (n / 10) (omega arith) (omega arith))

  -- how many digits
  pub decimal_length : (k : ℕ) → n < 10 ^ suc k → length (decimal n) ≤ suc k
  unfolding decimal
  decimal_length k h = digits_most (suc n) k n h

-- the last two digits behind the others
pub decimal_hundreds : (n : ℕ) → 100 ≤ n → decimal n ≡ decimal (n / 100) ++ ((48 + n / 10 % 10) ∷ (48 + n % 10) ∷ [])
decimal_hundreds n h =
    let hundreds : n / 10 / 10 ≡ n / 100 = omega arith in
    decimal_more n (omega arith) ∙ rw (decimal_more (n / 10) (omega arith), hundreds, append_assoc) refl

-- two digits, and three
pub decimal_two : (n : ℕ) → 10 ≤ n → n < 100 → decimal n ≡ (48 + n / 10) ∷ (48 + n % 10) ∷ []
decimal_two n h l = decimal_more n h ∙ rw (decimal_one (n / 10) (omega arith)) refl

pub decimal_three : (n : ℕ) → 100 ≤ n → n < 1000 → decimal n ≡ (48 + n / 100) ∷ (48 + n / 10 % 10) ∷ (48 + n % 10) ∷ []
decimal_three n h l = decimal_hundreds n h ∙ rw (decimal_one (n / 100) (omega arith)) refl
