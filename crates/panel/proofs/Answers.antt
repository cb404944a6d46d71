-- What the calls' answers are on paper: the numbers are small, and an accepted call gives its value, a refused one E.
-- Assumes nothing.
use mathlib.Core.Path.{◌≡◌}
use mathlib.Core.Bool.{Bool, ◌||◌}
use mathlib.Core.List.{List, [], ◌∷◌}
use Prim.Native.Nat.{ℕ, ◌≤◌, ◌<◌}
use native.Mathlib.Omega.{arith}
use lib.Dec.{eqb, leb}
use borrow.Author.Tests.{eq-eqb, ne_eqb, leb-false}
use Rattle.basis.proofs.Cases.{cond_case, or_parts}
use Rattle.parts.proofs.Laws.{lowest_zero, lowest_most}
use Rattle.rules.specs.State.{State}
use Rattle.rules.specs.Figure.{Tables}
use Rattle.rules.specs.Cycles.{used}
use Rattle.rules.specs.Refusals.{bad, wrong_picture, wrong_table, no_register, read_only, busy, off_screen, write_number, read_number, grant_number, vb_number, edge_number}
use Rattle.rules.specs.Calls.{Memory, answer, outcome, written, read_out, granted, blanked, struck}
use Rattle.panel.specs.Answer.{line_e, answered}

-- an accepted call answers its text, a refused one E
pub answer_given : (k n : ℕ) (text : List ℕ) → n ≡ 0 → answered k n text ≡ text
unfolding answered
answer_given k n text e = rw (eq-eqb n 0 e)

pub answer_refused : (k n : ℕ) (text : List ℕ) → (n ≡ 0 → ⊥) → answered k n text ≡ line_e k n
unfolding answered
answer_refused k n text h = rw (ne_eqb n 0 h)

-- every refusal number is at most 8, and a write's at most 6: no call gives 7
module _ (s : State) where
  pub written_small : (a v : ℕ) → (written s a v).number ≤ 6
  unfolding written answer write_number
  written_small a v = lowest_most 6 ((1, bad s) ∷ (4, no_register a) ∷ (5, read_only a) ∷ (6, busy s) ∷ []) tt

  pub read_out_small : (a : ℕ) → (read_out s a).number ≤ 8
  unfolding read_out answer read_number
  read_out_small a = lowest_most 8 ((1, bad s) ∷ (4, no_register a) ∷ []) tt

  pub granted_small : (n : ℕ) (m : Memory) (t : Tables) → (granted s n m t).answer.number ≤ 8
  unfolding granted outcome answer grant_number
  granted_small n m t = lowest_most 8 ((1, bad s) ∷ (2, wrong_picture s m.picture) ∷ (3, wrong_table t) ∷ []) tt

  pub blanked_small : (level : Bool) (m : Memory) → (blanked s level m).answer.number ≤ 8
  unfolding blanked outcome answer vb_number
  blanked_small level m = lowest_most 8 ((1, bad s) ∷ (2, wrong_picture s m.picture) ∷ []) tt

  pub struck_small : (h v : ℕ) → (struck s h v).number ≤ 8
  unfolding struck answer edge_number
  struck_small h v = lowest_most 8 ((1, bad s) ∷ (8, off_screen h v) ∷ []) tt

  -- a grant uses no more cycles than are granted
  pub granted_value : (n : ℕ) (m : Memory) (t : Tables) → (granted s n m t).answer.value ≤ n
  unfolding granted outcome answer used
  granted_value n m t = cond_case (λ (v : ℕ). v ≤ n) (eqb (grant_number s m.picture t) 0) (λ _. omega arith) (λ _. omega arith)

-- an accepted read is of an address that one hex digit writes
pub read_address : (s : State) (a : ℕ) → (read_out s a).number ≡ 0 → a < 16
unfolding read_out answer read_number no_register
read_address s a e =
    let none = lowest_zero ((1, bad s) ∷ (4, no_register a) ∷ []) tt e in
    omega (arith, leb-false 0xE a (or_parts (eqb a 0x4 || eqb a 0x6) (leb 0xE a) none.1.0).1)
