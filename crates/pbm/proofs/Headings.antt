-- The head of a file from its parts.
-- Assumes nothing.
use mathlib.Core.Path.{◌≡◌, refl, sym, ap, ◌∙◌}
use mathlib.Core.Logic.{⊎_elim}
use mathlib.Core.Bool.{true, false, ◌&&◌, and-false}
use mathlib.Core.List.{List, [], ◌∷◌}
use Prim.Native.Nat.{ℕ, ◌<◌, min}
use native.Mathlib.Omega.{arith}
use lib.Dec.{eqb}
use lib.ListN.{length, get_or, drop}
use borrow.Author.Tests.{eqb-true, eqb-false, eq-eqb, ne_eqb}
use Rattle.basis.proofs.Cases.{split}
use Rattle.parts.specs.Refusal.{lowest}
use Rattle.pbm.specs.Contents.{is_white, passed, is_digit, behind_digits, from_width, from_height, from_dots, marked, opens, sized_as}
use Rattle.pbm.specs.Working.Heads.{Read, Opened, head_number}

-- a file of fewer than three bytes is not marked
pub short_unmarked : (f : List ℕ) → length f < 3 → marked f ≡ false
unfolding marked is_white
short_unmarked [] h = refl
short_unmarked (x ∷ []) h = simp and-false
short_unmarked (x ∷ y ∷ []) h = simp and-false
short_unmarked (x ∷ y ∷ z ∷ zs) h = absurd (omega arith)

-- a number below 65536 is told apart from any other
told_apart : (m n w : ℕ) → n ≡ min 65536 m → w < 65536 → eqb m w ≡ eqb n w
told_apart m n w e h =
    ⊎_elim
    (λ t. t ∙ sym (eq-eqb n w (omega (arith, eqb-true m w t))))
    (λ t. t ∙ sym (ne_eqb n w (λ k. eqb-false m w t (omega arith))))
    (split (eqb m w))

module _ (f : List ℕ) where
  -- no P1
  pub unmarked : marked f ≡ false → opens f ≡ false
  unfolding opens
  unmarked m = rw m

  -- P1 is there, and what is left behind it
  module _ {mark p : List ℕ} (m : (marked f ≡ true) × (mark ≡ drop 2 f)) (next : p ≡ passed false mark) where
    at_width : p ≡ from_width f
    unfolding from_width
    at_width = next ∙ ap (passed false) m.1

    -- no first number
    pub no_width : is_digit (get_or p 0 0) ≡ false → opens f ≡ false
    unfolding opens
    no_width e = rw (m.0, ← at_width, e)

    module _ {n : ℕ} {left q : List ℕ} (x : Read p n left) (later : q ≡ passed false left) where
      at_height : q ≡ from_height f
      unfolding from_height
      at_height = later ∙ ap (passed false) (x.left ∙ ap behind_digits at_width)

      -- no second number
      pub no_height : is_digit (get_or q 0 0) ≡ false → opens f ≡ false
      unfolding opens
      no_height e = rw (m.0, ← at_width, x.some, ← at_height, e)

      -- both, and then the dots
      pub both_numbers : {k : ℕ} {dots : List ℕ} → Read q k dots → Opened f n k dots
      unfolding opens from_dots
      both_numbers y =
          record {
            opened = rw (m.0, ← at_width, x.some, ← at_height, y.some);
            is_width = rw (← at_width) x.number;
            is_height = rw (← at_height) y.number;
            left = y.left ∙ ap behind_digits at_height;
          }

module _ (w h : ℕ) (f : List ℕ) where
  pub head_unopened : opens f ≡ false → head_number w h f ≡ 10
  unfolding head_number lowest
  head_unopened e = rw e

  module _ {n k : ℕ} {dots : List ℕ} (o : Opened f n k dots) (fits : (w < 65536) × (h < 65536)) where
    -- the size is right where the numbers read are it
    sized : sized_as w h f ≡ eqb n w && eqb k h
    unfolding sized_as
    sized = rw (told_apart _ n w o.is_width fits.0, told_apart _ k h o.is_height fits.1)

    pub head_wide : (n ≡ w → ⊥) → head_number w h f ≡ 11
    unfolding head_number lowest
    head_wide e = rw (o.opened, sized, ne_eqb n w e)

    pub head_high : (k ≡ h → ⊥) → head_number w h f ≡ 11
    unfolding head_number lowest
    head_high e = rw (o.opened, sized, ne_eqb k h e, and-false)

    pub head_good : n ≡ w → k ≡ h → head_number w h f ≡ 0
    unfolding head_number lowest
    head_good e d = rw (o.opened, sized, eq-eqb n w e, eq-eqb k h d)
