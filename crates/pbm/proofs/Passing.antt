-- White space passed over, byte by byte.
-- Assumes nothing.
use mathlib.Core.Path.{◌≡◌, refl, sym, ◌∙◌}
use mathlib.Core.Bool.{Bool, true, false, not}
use mathlib.Core.List.{List, [], ◌∷◌}
use Prim.Native.Nat.{ℕ, ◌-◌, ◌<◌}
use native.Mathlib.Omega.{arith}
use lib.Dec.{eqb}
use lib.ListN.{length, get_or, take, drop, length-drop}
use Rattle.std.proofs.lemmas.List.{take_all, drop_more, at_drop_more}
use borrow.Author.Tests.{ne_eqb}
use Rattle.basis.proofs.Cases.{cond_case}
use Rattle.text.specs.Pieces.{line_feed}
use Rattle.pbm.specs.Contents.{is_white, hash, passed}

-- what the code takes of a file from a place on is all of that
pub rest_at : (s : List ℕ) (i : ℕ) → take (length s - i) (drop i s) ≡ drop i s
rest_at s i = take_all (length s - i) (drop i s) (omega (arith, length-drop i s))

-- at the end nothing is left
pub passed_end : (c : Bool) → passed c [] ≡ []
unfolding passed
passed_end c = refl

module _ (b : ℕ) (bs : List ℕ) where
  -- in a comment each byte is passed, and the line feed ends it
  pub passed_comment : passed true (b ∷ bs) ≡ passed (not (eqb b line_feed)) bs
  unfolding passed
  passed_comment = refl

  -- # begins one
  pub passed_hash : b ≡ hash → passed false (b ∷ bs) ≡ passed true bs
  unfolding passed is_white
  passed_hash e = rw e

  -- white space
  pub passed_white : is_white b ≡ true → passed false (b ∷ bs) ≡ passed false bs
  unfolding passed
  passed_white e = rw e

  -- any other byte stays
  pub passed_sign : is_white b ≡ false → (b ≡ hash → ⊥) → passed false (b ∷ bs) ≡ b ∷ bs
  unfolding passed
  passed_sign e n = rw (e, ne_eqb b hash n)

-- where white space is passed over, none is left
pub passed_twice : (c : Bool) (s : List ℕ) → passed false (passed c s) ≡ passed c s
unfolding passed
passed_twice c [] = refl
passed_twice true (b ∷ bs) = passed_twice (not (eqb b line_feed)) bs
passed_twice false (b ∷ bs) =
    let still : List ℕ → Type 0 = λ r. passed false r ≡ r in
    cond_case still (is_white b) (λ _. passed_twice false bs)
    (λ w. cond_case still (eqb b hash) (λ _. passed_twice true bs) (λ h. rw (w, h)))

-- a sign that is reached stays
pub sign_stays : (s : List ℕ) (i : ℕ) → i < length s → is_white (get_or s i 0) ≡ false → (get_or s i 0 ≡ hash → ⊥)
    → passed false (drop i s) ≡ drop i s
sign_stays s i h e n = at_drop_more (passed false) s i 0 h ∙ passed_sign _ _ e n ∙ sym (drop_more s i 0 h)
