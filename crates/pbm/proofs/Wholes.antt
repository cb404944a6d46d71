-- A whole number read digit by digit, and told apart below 65536 only.
-- Assumes nothing.
use mathlib.Core.Path.{◌≡◌, refl, sym, ◌∙◌}
use mathlib.Core.Bool.{true, false}
use mathlib.Core.List.{List, [], ◌∷◌}
use Prim.Native.Nat.{ℕ, ◌+◌, ◌*◌, ◌≤◌, ◌<◌, min}
use native.Mathlib.Omega.{arith}
use lib.ListN.{length, get_or}
use borrow.Author.Tests.{lt-ltb, le-ltb}
use Rattle.text.specs.Numbers.{digit_value, number_from}
use Rattle.pbm.specs.Contents.{is_digit, digits, behind_digits}
use Rattle.pbm.specs.Working.Heads.{Read}

-- numbers that are not told apart are not with more digits either
not_apart : (m n : ℕ) (ds : List ℕ) → min 65536 m ≡ min 65536 n → min 65536 (number_from 10 m ds) ≡ min 65536 (number_from 10 n ds)
unfolding number_from
not_apart m n [] e = e
not_apart m n (d ∷ ds) e = not_apart (m * 10 + digit_value d) (n * 10 + digit_value d) ds (omega arith)

-- no digit stands first: nothing is read
pub no_digit : (s : List ℕ) → is_digit (get_or s 0 0) ≡ false → (digits s ≡ []) × (behind_digits s ≡ s)
unfolding digits behind_digits
no_digit [] e = (refl, refl)
no_digit (b ∷ bs) e = (rw e, rw e)

-- some digits are read, and n is their number: the rest decides
pub record Reading (s : List ℕ) (n : ℕ) (rest : List ℕ) : Type 0 where
  pub some : is_digit (get_or s 0 0) ≡ true
  pub small : n ≤ 65536
  pub same : min 65536 (number_from 10 0 (digits s)) ≡ min 65536 (number_from 10 n (digits rest))
  pub behind : behind_digits s ≡ behind_digits rest

module _ (b d : ℕ) (bs : List ℕ) (v : (d ≡ digit_value b) × (d < 10)) where
  digit : is_digit b ≡ true
  unfolding is_digit
  digit = rw v.0 at (lt-ltb d 10 v.1)

  -- behind it the same is left
  pub behind_one : {s : List ℕ} → s ≡ b ∷ bs → behind_digits s ≡ behind_digits bs
  unfolding behind_digits
  behind_one e = rw (e, digit)

  -- the first
  pub reading_one : {s : List ℕ} → s ≡ b ∷ bs → Reading s d bs
  unfolding digits behind_digits number_from
  reading_one e =
      record { some = rw e digit; small = omega arith; same = rw (e, digit) (not_apart (0 * 10 + digit_value b) d (digits bs) (omega arith)); behind = rw (e, digit) }

  -- one more
  pub reading_more : {n m : ℕ} {s rest : List ℕ} → Reading s n rest → rest ≡ b ∷ bs → m ≡ min 65536 (n * 10 + d) → Reading s m bs
  unfolding digits behind_digits number_from
  reading_more {n} {m} p e k =
      record {
        some = p.some;
        small = omega arith;
        same = p.same ∙ rw (e, digit) (not_apart (n * 10 + digit_value b) m (digits bs) (omega arith));
        behind = p.behind ∙ rw (e, digit);
      }

-- a number of 65536 or more stays so, whatever digits follow
stays : (n : ℕ) (ds : List ℕ) → 65536 ≤ n → 65536 ≤ number_from 10 n ds
unfolding number_from
stays n [] h = h
stays n (d ∷ ds) h = stays (n * 10 + digit_value d) ds (omega arith)

-- so it is read, its digits only passed over
pub reading_large : {s rest left : List ℕ} {n : ℕ} → Reading s n rest → n ≡ 65536 → left ≡ behind_digits rest → Read s 65536 left
reading_large {rest = rest} {n = n} p e k =
    let large : 65536 ≤ number_from 10 n (digits rest) = stays n (digits rest) (omega arith) in
    record { some = p.some; number = omega (arith, p.same, large); left = k ∙ sym p.behind }

-- none is next: the number is read
pub reading_stop : {s rest : List ℕ} {n : ℕ} → Reading s n rest → is_digit (get_or rest 0 0) ≡ false → Read s n rest
unfolding number_from
reading_stop {rest = rest} {n = n} p e =
    let none = no_digit rest e in
    let it : min 65536 (number_from 10 0 (digits _)) ≡ min 65536 n = p.same ∙ rw none.0 in
    record { some = p.some; number = omega (arith, p.small); left = sym (p.behind ∙ none.1) }

-- no byte is next, or one that is no digit
pub none_first : (s : List ℕ) → length s ≡ 0 → is_digit (get_or s 0 0) ≡ false
unfolding is_digit digit_value
none_first [] e = refl
none_first (b ∷ bs) e = absurd (omega arith)

pub other_first : {s bs : List ℕ} {b : ℕ} → s ≡ b ∷ bs → 10 ≤ digit_value b → is_digit (get_or s 0 0) ≡ false
unfolding is_digit
other_first {b = b} e h = rw e (le-ltb (digit_value b) 10 h)
