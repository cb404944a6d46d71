-- White space of any amount is passed over, and a number's digits are read as far as they go.
-- Assumes nothing.
use mathlib.Core.Path.{◌≡◌, refl, sym, ap, ◌∙◌}
use mathlib.Core.Logic.{⊎_elim}
use mathlib.Core.Bool.{Bool, true, false, not, ◌&&◌, ◌||◌, true≢false, false≢true}
use mathlib.Core.List.{List, [], ◌∷◌, ◌++◌}
use Prim.Native.Nat.{ℕ, zero, suc}
use borrow.Author.Tests.{eqb-true}
use lib.Dec.{eqb, ltb}
use lib.ListN.{length, get_or, replicate}
use Rattle.basis.proofs.Cases.{split, and_parts, or_cases}
use Rattle.text.specs.Pieces.{line_feed}
use Rattle.text.specs.Numbers.{digit_value, are_digits, number_from}
use Rattle.pbm.specs.Contents.{is_white, hash, passed, is_digit, digits, behind_digits, taken, are_dots, is_dot}
use Rattle.pbm.specs.Spaced.{is_gap, are_gaps, parts, spread}
use Rattle.pbm.proofs.Passing.{passed_white, passed_hash, passed_comment}
use Rattle.pbm.proofs.Taking.{passed_dot}
use Rattle.pbm.proofs.Wholes.{no_digit}

-- Gaps ----------------------------------------------------------------------------------------------------------------

-- a gap is passed over, whatever stands behind it
pub gap_passed : (c : Bool) (g s : List ℕ) → is_gap c g ≡ true → passed c (g ++ s) ≡ passed false s
unfolding is_gap
gap_passed true [] s e = absurd (false≢true e)
gap_passed false [] s e = refl
gap_passed true (b ∷ bs) s e = passed_comment b (bs ++ s) ∙ gap_passed (not (eqb b line_feed)) bs s e
gap_passed false (b ∷ bs) s e =
    ⊎_elim
    (λ t.
    let both = and_parts (is_white b) (is_gap false bs) t in
    passed_white b (bs ++ s) both.0 ∙ gap_passed false bs s both.1)
    (λ t.
    let both = and_parts (eqb b hash) (is_gap true bs) t in
    passed_hash b (bs ++ s) (eqb-true b hash both.0) ∙ gap_passed true bs s both.1)
    (or_cases (is_white b && is_gap false bs) (eqb b hash && is_gap true bs) e)

-- so the signs behind it are taken
pub gap_taken : (n : ℕ) (g s : List ℕ) → is_gap false g ≡ true → taken n (g ++ s) ≡ taken n s
unfolding taken
gap_taken zero g s e = refl
gap_taken (suc n) g s e = rw (gap_passed false g s e)

-- some white space begins with white space or with #, and neither is a digit
pub gap_first : (g s : List ℕ) → parts g ≡ true
    → ((is_white (get_or (g ++ s) 0 0) || eqb (get_or (g ++ s) 0 0) hash) ≡ true) × (is_digit (get_or (g ++ s) 0 0) ≡ false)
unfolding parts is_gap is_white is_digit digit_value
gap_first [] s e = absurd (false≢true e)
gap_first (b ∷ bs) s e =
    ⊎_elim
    (λ t.
    let white = (and_parts (is_white b) (is_gap false bs) t).0 in
    ⊎_elim (λ u. rw (eqb-true b 32 u) (refl, refl))
    (λ u. ⊎_elim (λ v. rw (eqb-true b 9 v) (refl, refl))
    (λ v. ⊎_elim (λ w. rw (eqb-true b 13 w) (refl, refl)) (λ w. rw (eqb-true b 10 w) (refl, refl)) (or_cases (eqb b 13) (eqb b 10) v))
    (or_cases (eqb b 9) (eqb b 13 || eqb b 10) u))
    (or_cases (eqb b 32) (eqb b 9 || (eqb b 13 || eqb b 10)) white))
    (λ t. rw (eqb-true b hash (and_parts (eqb b hash) (is_gap true bs) t).0) (refl, refl))
    (or_cases (is_white b && is_gap false bs) (eqb b hash && is_gap true bs) (and_parts (ltb 0 (length (b ∷ bs))) (is_gap false (b ∷ bs)) e).1)

pub gap_part : (g : List ℕ) → parts g ≡ true → is_gap false g ≡ true
unfolding parts
gap_part g e = (and_parts (ltb 0 (length g)) (is_gap false g) e).1

-- Dots with gaps before them are taken, and what follows the last is not looked at
pub spread_taken : (gaps : List (List ℕ)) (bs tail : List ℕ) → are_gaps gaps ≡ true → are_dots bs ≡ true
    → taken (length bs) (spread gaps bs tail) ≡ bs
unfolding spread are_gaps are_dots taken
spread_taken gaps [] tail g e = refl
spread_taken [] (b ∷ bs) tail g e =
    let both = and_parts (is_dot b) (are_dots bs) e in
    rw (passed_dot (spread [] bs tail) both.0) (ap (λ (l : List ℕ). b ∷ l) (spread_taken [] bs tail g both.1))
spread_taken (h ∷ gs) (b ∷ bs) tail g e =
    let both = and_parts (is_dot b) (are_dots bs) e in
    let gaps = and_parts (is_gap false h) (are_gaps gs) g in
    rw (gap_passed false h (b ∷ spread gs bs tail) gaps.0, passed_dot (spread gs bs tail) both.0)
    (ap (λ (l : List ℕ). b ∷ l) (spread_taken gs bs tail gaps.1 both.1))

-- Digits --------------------------------------------------------------------------------------------------------------

-- a digit is no white space, and no comment begins with it
pub passed_digit : (b : ℕ) (bs : List ℕ) → is_digit b ≡ true → passed false (b ∷ bs) ≡ b ∷ bs
unfolding passed is_white is_digit digit_value
passed_digit b bs e =
    let no : (n : ℕ) → is_digit n ≡ false → eqb b n ≡ false =
    λ n f. ⊎_elim (λ t. absurd (true≢false (sym e ∙ ap is_digit (eqb-true b n t) ∙ f))) (λ t. t) (split (eqb b n)) in
    rw (no 32 refl, no 9 refl, no 13 refl, no 10 refl, no 35 refl)

-- digits are read as far as they go
pub digits_read : (xs s : List ℕ) → are_digits 10 xs ≡ true → is_digit (get_or s 0 0) ≡ false
    → (digits (xs ++ s) ≡ xs) × (behind_digits (xs ++ s) ≡ s)
unfolding digits behind_digits are_digits is_digit
digits_read [] s e n = no_digit s n
digits_read (x ∷ xs) s e n =
    let both = and_parts (ltb (digit_value x) 10) (are_digits 10 xs) e in
    let rest = digits_read xs s both.1 n in
    (rw (both.0, rest.0), rw (both.0, rest.1))

-- zeros before a number are digits, and do not change it
pub zeros_digits : (z : ℕ) (xs : List ℕ) → are_digits 10 xs ≡ true → are_digits 10 (replicate z 48 ++ xs) ≡ true
unfolding are_digits digit_value
zeros_digits zero xs e = e
zeros_digits (suc z) xs e = zeros_digits z xs e

pub zeros_number : (z : ℕ) (xs : List ℕ) → number_from 10 0 (replicate z 48 ++ xs) ≡ number_from 10 0 xs
unfolding number_from digit_value
zeros_number zero xs = refl
zeros_number (suc z) xs = zeros_number z xs
