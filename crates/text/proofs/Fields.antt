-- How many fields a line has.
-- Assumes nothing.
use mathlib.Core.Path.{◌≡◌, refl}
use mathlib.Core.Logic.{◌⊎◌, inl, inr, ⊎_elim}
use mathlib.Core.Bool.{false, and-false}
use mathlib.Core.List.{List, [], ◌∷◌}
use Prim.Native.Nat.{ℕ, ◌<◌, ◌≤◌}
use native.Mathlib.Omega.{arith}
use lib.Dec.{eqb, ltb}
use lib.ListN.{length}
use borrow.Author.Tests.{eqb-true, le-ltb}
use Rattle.text.specs.Pieces.{tab, attached, fields_of}
use Rattle.text.specs.Numbers.{digit_value, are_digits}
use Rattle.basis.proofs.Cases.{split}

-- a byte put before them leaves no fewer fields
no_fewer : (b : ℕ) (ls : List (List ℕ)) → length ls ≤ length (attached b ls)
unfolding attached
no_fewer b [] = omega arith
no_fewer b (l ∷ ls) = omega arith

-- every line has a field
pub fields_some : (t : List ℕ) → 0 < length (fields_of t)
unfolding fields_of
fields_some [] = omega arith
fields_some (b ∷ bs) =
    ⊎_elim
    (λ h. rw h (omega arith))
    (λ h. rw h (omega (arith, fields_some bs, no_fewer b (fields_of bs))))
    (split (eqb b tab))

-- a line is one field, or it has a tab, which is no digit
pub one_or_tab : (t : List ℕ)
    → (fields_of t ≡ t ∷ []) ⊎ ((1 < length (fields_of t)) × ((base : ℕ) → base ≤ 16 → are_digits base t ≡ false))
unfolding fields_of attached are_digits digit_value
one_or_tab [] = inl refl
one_or_tab (b ∷ bs) =
    ⊎_elim
    (λ h. inr (rw h (omega (arith, fields_some bs)), λ base small. rw (eqb-true b tab h) (rw (le-ltb 16 base small))))
    (λ h.
    ⊎_elim
    (λ (e : fields_of bs ≡ bs ∷ []). inl (rw h (rw e)))
    (λ p. inr (rw h (omega (arith, p.0, no_fewer b (fields_of bs))), λ base small. rw (p.1 base small) (and-false (ltb (digit_value b) base))))
    (one_or_tab bs))
    (split (eqb b tab))
