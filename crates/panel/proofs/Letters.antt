-- What each letter makes of its fields, read as numbers.
-- Assumes nothing.
use mathlib.Core.Path.{◌≡◌, refl}
use mathlib.Core.Logic.{⊎_elim}
use mathlib.Core.Bool.{Bool, true, false, cond, ◌&&◌, and-false}
use mathlib.Core.List.{List, []}
use Prim.Native.Nat.{ℕ, ◌+◌, ◌^◌, ◌≤◌, ◌<◌}
use native.Mathlib.Omega.{arith}
use lib.Dec.{eqb, leb}
use borrow.Author.Tests.{le-leb, lt-leb, ne_eqb}
use Rattle.std.specs.Prelude.{Option, Some, None, Result, Ok, Err}
use Rattle.std.specs.Result.{OkIff, result_ok}
use Rattle.basis.proofs.Cases.{split}
use Rattle.text.specs.Numbers.{is_number, number_from}
use Rattle.text.specs.Taken.{Taken}
use Rattle.text.proofs.Laws.{number_small}
use Rattle.panel.specs.Record.{Record, Write, Read, Cycles, Blanking, Edge, Malformed, record_by}
use Rattle.panel.specs.Working.Parsed.{number_to}

-- a number, where the field is one
abbrev pub taken : Bool → ℕ → Option ℕ
taken b n = cond b (Some n) None

-- a record of one number or two, where there are so many
abbrev pub of_one : (ℕ → Record) → Option ℕ → Record
of_one make None = Malformed
of_one make (Some n) = make n

abbrev pub of_two : (ℕ → ℕ → Record) → Option ℕ → Option ℕ → Record
of_two make None p = Malformed
of_two make (Some m) None = Malformed
of_two make (Some m) (Some n) = make m n

one_if : (a : Bool) (n : ℕ) (make : ℕ → Record) → cond a (make n) Malformed ≡ of_one make (taken a n)
one_if true n make = refl
one_if false n make = refl

two_if : (a b : Bool) (m n : ℕ) (make : ℕ → ℕ → Record) → cond (a && b) (make m n) Malformed ≡ of_two make (taken a m) (taken b n)
two_if true true m n make = refl
two_if true false m n make = refl
two_if false b m n make = refl

-- the same where each has a bound of its own
two_within : (a b p q : Bool) (m n : ℕ) (make : ℕ → ℕ → Record)
    → cond (a && b && p && q) (make m n) Malformed ≡ of_two make (taken (a && p) m) (taken (b && q) n)
two_within true true p q m n make = two_if p q m n make
two_within true false true q m n make = refl
two_within true false false q m n make = refl
two_within false b p q m n make = refl

-- no number
module _ (top base most : ℕ) (f : List ℕ) {n : ℕ} where
  pub number_to_none : Taken base most f false n → None ≡ number_to top base most f
  unfolding number_to
  number_to_none t = rw (← t.is)

  -- one that is converted, where it is not too great
  pub number_to_ok : {E : Type 0} (r : Result ℕ E) → Taken base most f true n → OkIff r (n < top + 1) n → result_ok r ≡ number_to top base most f
  unfolding number_to
  number_to_ok (Ok x) t h = rw (← t.is, ← t.number, le-leb n top (omega (arith, h.0)), h.1)
  number_to_ok (Err e) t h = rw (← t.is, ← t.number, lt-leb n top (omega (arith, h)))

-- so few digits make no number of more than 255
few : (base most : ℕ) (f : List ℕ) → 0 < base → base ^ most ≤ 256 → number_to 255 base most f ≡ taken (is_number base most f) (number_from base 0 f)
unfolding number_to
few base most f some fits =
    ⊎_elim
    (λ t. rw (t, le-leb (number_from base 0 f) 255 (omega (arith, number_small base most f some t))))
    (λ t. rw t)
    (split (is_number base most f))

module _ (f : List ℕ) where
  -- R: the address
  pub says_read : record_by 82 2 f [] ≡ of_one Read (number_to 255 16 1 f)
  unfolding record_by
  says_read = rw (few 16 1 f (omega arith) (omega arith)) (one_if (is_number 16 1 f) _ _)

  -- T: the cycles, at most 65,535
  pub says_cycles : record_by 84 2 f [] ≡ of_one Cycles (number_to 65535 10 5 f)
  unfolding record_by number_to
  says_cycles = one_if (is_number 10 5 f && leb (number_from 10 0 f) 65535) _ _

  -- V: 0 or 1
  pub says_blanking : record_by 86 2 f [] ≡ of_one (λ n. cond (leb n 1) (Blanking (eqb n 1)) Malformed) (number_to 255 10 1 f)
  unfolding record_by
  says_blanking =
      rw (few 10 1 f (omega arith) (omega arith))
      (⊎_elim (λ t. rw t) (λ t. rw t) (split (is_number 10 1 f)))

  module _ (g : List ℕ) where
    -- W: address and value
    pub says_write : record_by 87 3 f g ≡ of_two Write (number_to 255 16 1 f) (number_to 255 16 2 g)
    unfolding record_by
    says_write =
        rw (few 16 1 f (omega arith) (omega arith), few 16 2 g (omega arith) (omega arith)) (two_if (is_number 16 1 f) (is_number 16 2 g) _ _ _)

    -- L: h and v, at most 255
    pub says_edge : record_by 76 3 f g ≡ of_two Edge (number_to 255 10 3 f) (number_to 255 10 3 g)
    unfolding record_by number_to
    says_edge = two_within (is_number 10 3 f) (is_number 10 3 g) (leb (number_from 10 0 f) 255) (leb (number_from 10 0 g) 255) _ _ _

-- no letter for one field, or for two
pub other_one : (l : ℕ) (f : List ℕ) → (l ≡ 82 → ⊥) → (l ≡ 84 → ⊥) → (l ≡ 86 → ⊥) → record_by l 2 f [] ≡ Malformed
unfolding record_by
other_one l f r t v = simp (ne_eqb l 82 r, ne_eqb l 84 t, ne_eqb l 86 v, and-false)

pub other_two : (l : ℕ) (f g : List ℕ) → (l ≡ 87 → ⊥) → (l ≡ 76 → ⊥) → record_by l 3 f g ≡ Malformed
unfolding record_by
other_two l f g w e = simp (ne_eqb l 87 w, ne_eqb l 76 e, and-false)
