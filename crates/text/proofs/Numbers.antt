-- A field read as a number, digit by digit, in any base.
-- Assumes nothing.
use mathlib.Core.Logic.{⊎_elim}
use mathlib.Core.Path.{◌≡◌, refl, sym, ap, ◌∙◌}
use mathlib.Core.Bool.{true, false, ◌&&◌, and-false}
use mathlib.Core.List.{List, [], ◌∷◌}
use Prim.Native.Nat.{ℕ, suc, ◌+◌, ◌*◌, ◌^◌, ◌<◌, ◌≤◌}
use native.Mathlib.Nat.{pow-zero, pow-suc, pow-le-pow_left, pow-le-pow_right, mul-le-mul_right}
use native.Mathlib.Numerals.{add-one}
use native.Mathlib.Omega.{arith}
use lib.ListN.{length, get_or, drop, drop_of_length-le}
use lib.Seq.{drop-cons}
use lib.Dec.{leb, ltb}
use borrow.Author.Tests.{le-leb, lt-leb, lt-ltb, le-ltb, leb-true, ltb-true}
use Rattle.text.specs.Taken.{Taken}
use Rattle.std.specs.Prelude.{Some, None}
use Rattle.basis.proofs.Cases.{less, and_parts}
use Rattle.text.specs.Numbers.{digit_value, digit_of, are_digits, is_number, number_from}

-- a byte that is a digit of a base: its value, which is below the base; or none
pub digit_some : (base b d : ℕ) → Some d ≡ digit_of base b → (d ≡ digit_value b) × (d < base)
unfolding digit_of
digit_some base b d e =
    ⊎_elim
    (λ h. let some = rw (lt-ltb (digit_value b) base h) at e in let same : d ≡ digit_value b = cc in (same, omega arith))
    (λ h. let none = rw (le-ltb (digit_value b) base h) at e in cc)
    (less (digit_value b) base)

pub digit_none : (base b : ℕ) → None ≡ digit_of base b → base ≤ digit_value b
unfolding digit_of
digit_none base b e =
    ⊎_elim
    (λ h. let some = rw (lt-ltb (digit_value b) base h) at e in cc)
    (λ h. h)
    (less (digit_value b) base)

-- a field that is no number: no digit, too many, a wrong one
module _ (base most : ℕ) (f : List ℕ) where
  pub too_short : length f ≡ 0 → is_number base most f ≡ false
  unfolding is_number
  too_short h = rw h

  pub too_long : most < length f → is_number base most f ≡ false
  unfolding is_number
  too_long h = simp (lt-leb (length f) most h, and-false)

  pub no_digits : are_digits base f ≡ false → is_number base most f ≡ false
  unfolding is_number
  no_digits h = simp (h, and-false)

-- a field's number is below the base to its length
number_below : (base n : ℕ) (f : List ℕ) → are_digits base f ≡ true → number_from base n f < (n + 1) * base ^ length f
unfolding are_digits number_from
number_below base n [] t = rw pow-zero (omega arith)
number_below base n (b ∷ bs) t =
    let d = digit_value b in
    let here : d < base = ltb-true d base (and_parts (ltb d base) (are_digits base bs) t).0 in
    let rest = number_below base (n * base + d) bs (and_parts (ltb d base) (are_digits base bs) t).1 in
    let most : n * base + d + 1 ≤ (n + 1) * base = omega arith in
    rw (pow-suc base (length bs)) (grind (arith, rest, mul-le-mul_right (base ^ length bs) most))

-- so a number of at most so many digits is small
pub number_small : (base most : ℕ) (f : List ℕ) → 0 < base → is_number base most f ≡ true → number_from base 0 f < base ^ most
unfolding is_number
number_small base most f some t =
    let p = and_parts (leb 1 (length f) && leb (length f) most) (are_digits base f) t in
    let short = leb-true (length f) most (and_parts (leb 1 (length f)) (leb (length f) most) p.0).1 in
    omega (arith, number_below base 0 f p.1, pow-le-pow_right some short)

-- n holds the first i bytes of f, which are digits: the rest decides
pub record Passed (base : ℕ) (f : List ℕ) (n i : ℕ) : Type 0 where
  pub within : i ≤ length f
  pub same : number_from base n (drop i f) ≡ number_from base 0 f
  pub good : are_digits base (drop i f) ≡ are_digits base f
  pub small : n < base ^ i

module _ {base : ℕ} {f : List ℕ} where
  -- before the first byte
  pub passed_none : Passed base f 0 0
  passed_none = record { within = omega arith; same = refl; good = refl; small = rw pow-zero (omega arith) }

  module _ {n i : ℕ} (p : Passed base f n i) where
    -- few digits make a small number
    pub below : (k : ℕ) → 0 < base → i ≤ k → n < base ^ k
    below k h l = omega (arith, p.small, pow-le-pow_right h l)

    -- and with one digit more, whichever, it is still small
    pub one_more : n * base + base ≤ base ^ suc i
    one_more = omega (arith, mul-le-mul_right base p.small, pow-suc base i)

    -- eight digits, of base 16 at most, make a number below 2 ^ 32
    pub fits : base ≤ 16 → i < 8 → n * base + base ≤ 4294967296
    fits h l = omega (arith, one_more, pow-le-pow_left h (suc i), pow-le-pow_right {n = 16} (omega arith) l)

    -- one digit more
    pub passed_more : {d : ℕ} → i < length f → d ≡ digit_value (get_or f i 0) → d < base → Passed base f (n * base + d) (i + 1)
    unfolding are_digits number_from
    passed_more {d} h e l =
        let here : drop i f ≡ get_or f i 0 ∷ drop (i + 1) f = rw (add-one, ← drop-cons f i 0) in
        record {
          within = omega arith;
          same = rw e (ap (number_from base n) (sym here) ∙ p.same);
          good = rw (here, ← e, lt-ltb d base l) at p.good;
          small = rw add-one (omega (arith, one_more));
        }

    -- a byte that is no digit: the field is no number
    pub passed_bad : {d : ℕ} (most : ℕ) → i < length f → d ≡ digit_value (get_or f i 0) → base ≤ d → is_number base most f ≡ false
    unfolding are_digits
    passed_bad {d} most h e l =
        no_digits base most f (sym p.good ∙ ap (are_digits base) (drop-cons f i 0 h) ∙ rw (← e, le-ltb d base l))

    -- the end: it is a number, and n is it
    pub taken_all : {most : ℕ} → 0 < base → length f ≤ i → 0 < length f → length f ≤ most → Taken base most f true n
    unfolding are_digits number_from is_number
    taken_all {most} some h k l =
        let end = drop_of_length-le f h in
        let e : are_digits base f ≡ true = sym p.good ∙ ap (are_digits base) end in
        record {
          is = simp (le-leb 1 (length f) k, le-leb (length f) most l, e);
          number = ap (number_from base n) (sym end) ∙ p.same;
          small = below most some (omega (arith, p.within));
        }

-- no number
pub taken_none : {base most : ℕ} {f : List ℕ} → 0 < base → is_number base most f ≡ false → Taken base most f false 0
taken_none {base} {most} {f} some e =
    record { is = sym e; number = refl; small = below (passed_none {base = base} {f = f}) most some (omega arith) }
