-- What a line means, by its letter, the count of its fields, and the tabs found in it.
-- Assumes nothing.
use mathlib.Core.Path.{◌≡◌, refl, sym, ap, ◌∙◌}
use mathlib.Core.Logic.{⊎_elim}
use mathlib.Core.Bool.{false, and-false}
use mathlib.Core.List.{List, [], ◌∷◌}
use Prim.Native.Nat.{ℕ, suc, ◌-◌, ◌<◌, ◌≤◌}
use native.Mathlib.Omega.{arith}
use lib.Dec.{eqb}
use lib.ListN.{length, get_or, take, drop, length-drop}
use lib.Seq.{drop-cons, take_all}
use borrow.Author.Tests.{ne_eqb, eqb-true, eqb-false}
use Rattle.std.specs.Prelude.{Option, Some, None}
use Rattle.std.specs.Borrow.{Bor}
use Rattle.text.specs.Pieces.{tab, attached, fields_of}
use Rattle.text.specs.Numbers.{is_number}
use Rattle.text.specs.Working.Cut.{Cut}
use Rattle.basis.proofs.Cases.{split}
use Rattle.text.proofs.Laws.{at_tabs, joins, fields_cut, one_or_tab, no_digits}
use Rattle.panel.specs.Record.{Record, Malformed, letter_of, record_by, record_of}

-- one field or more than three
other_count : (l n : ℕ) (f g : List ℕ) → (n ≡ 2 → ⊥) → (n ≡ 3 → ⊥) → record_by l n f g ≡ Malformed
unfolding record_by
other_count l n f g h k = simp (ne_eqb n 2 h, ne_eqb n 3 k, and-false)

-- three fields, the last of them no number
bad_last : (l : ℕ) (f g : List ℕ) → is_number 16 2 g ≡ false → is_number 10 3 g ≡ false → record_by l 3 f g ≡ Malformed
unfolding record_by
bad_last l f g h d = simp (h, d, and-false)

-- what the fields mean together
abbrev by_fields : List (List ℕ) → Record
by_fields ls = record_by (letter_of (get_or ls 0 [])) (length ls) (get_or ls 1 []) (get_or ls 2 [])

-- a first field of two bytes or more is no letter
long_letter : (x y : ℕ) (ls : List (List ℕ)) → by_fields (attached x (attached y ls)) ≡ Malformed
unfolding letter_of attached record_by
long_letter x y [] = refl
long_letter x y (l ∷ ls) = rw (ne_eqb (suc (suc (length l))) 1 (λ e. omega arith))

module _ (x : ℕ) (bs : List ℕ) where
  -- no tab behind the letter
  no_tab : (y : ℕ) → (y ≡ tab → ⊥) → record_of (x ∷ y ∷ bs) ≡ Malformed
  unfolding record_of record_by letter_of fields_of
  no_tab y h =
      ⊎_elim
      (λ t. rw t)
      (λ t.
      let parts = joins at_tabs x (y ∷ bs) (eqb-false x tab t) ∙ ap (attached x) (joins at_tabs y bs h) in
      ap by_fields parts ∙ long_letter x y (fields_of bs))
      (split (eqb x tab))

  -- a tab behind the letter
  lettered : record_of (x ∷ tab ∷ bs) ≡ by_fields ((x ∷ []) ∷ fields_of bs)
  unfolding record_of record_by fields_of letter_of attached
  lettered = ⊎_elim (λ t. rw (t, eqb-true x tab t)) (λ t. rw t) (split (eqb x tab))

-- a line of fewer than two bytes
pub short : (line : List ℕ) → length line < 2 → record_of line ≡ Malformed
unfolding record_of record_by fields_of letter_of attached
short [] h = refl
short (x ∷ []) h = ⊎_elim (λ t. rw t) (λ t. rw t (other_count x 1 [] [] (λ e. omega arith) (λ e. omega arith))) (split (eqb x tab))
short (x ∷ y ∷ bs) h = absurd (omega arith)

-- whatever stands behind the second tab is taken for the last field: with a third tab it is no number
last_field : (l : ℕ) (f t : List ℕ) → record_by l (suc (suc (length (fields_of t)))) f (get_or (fields_of t) 0 []) ≡ record_by l 3 f t
last_field l f t =
    ⊎_elim
    (λ e. rw e)
    (λ p.
    other_count l (suc (suc (length (fields_of t)))) f (get_or (fields_of t) 0 []) (λ e. omega (arith, p.0)) (λ e. omega (arith, p.0))
    ∙ sym (bad_last l f t (no_digits 16 2 t (p.1 16 (omega arith))) (no_digits 10 3 t (p.1 10 (omega arith)))))
    (one_or_tab t)

-- a line of two bytes or more: its letter, what stands behind that, and the rest
module _ (line : List ℕ) (long : 2 ≤ length line) where
  shape : line ≡ get_or line 0 0 ∷ get_or line 1 0 ∷ drop 2 line
  shape = drop-cons line 0 0 (omega arith) ∙ ap (λ (l : List ℕ). get_or line 0 0 ∷ l) (drop-cons line 1 0 (omega arith))

  -- no tab behind the letter
  pub untabbed : (get_or line 1 0 ≡ tab → ⊥) → record_of line ≡ Malformed
  untabbed h = ap record_of shape ∙ no_tab (get_or line 0 0) (drop 2 line) (get_or line 1 0) h

  -- a tab there: the fields by the next
  module _ (here : get_or line 1 0 ≡ tab) {f : List ℕ} (r : Option (Bor (List ℕ))) (c : Cut tab (take (length line - 2) (drop 2 line)) f r) where
    behind : record_of line ≡ by_fields ((get_or line 0 0 ∷ []) ∷ fields_of (take (length line - 2) (drop 2 line)))
    behind =
        ap record_of (shape ∙ ap (λ (y : ℕ). get_or line 0 0 ∷ y ∷ drop 2 line) here)
        ∙ lettered (get_or line 0 0) (drop 2 line)
        ∙ ap (λ (t : List ℕ). by_fields ((get_or line 0 0 ∷ []) ∷ fields_of t)) (sym (take_all (length line - 2) (drop 2 line) (simp length-drop (omega arith))))

    -- none: one field behind the letter
    pub one_field : r ≡ None → record_of line ≡ record_by (get_or line 0 0) 2 f []
    unfolding letter_of
    one_field none = behind ∙ rw (fields_cut _ r c, none) refl

    -- one: two fields, or more than any record has
    pub two_fields : {g : Bor (List ℕ)} → r ≡ Some g → record_of line ≡ record_by (get_or line 0 0) 3 f g.now
    unfolding letter_of
    two_fields {g} some = behind ∙ rw (fields_cut _ r c, some) (last_field (get_or line 0 0) f g.now)
