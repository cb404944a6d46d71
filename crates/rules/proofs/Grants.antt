-- Grants join at the call: j cycles and then k, in two calls, are j + k in one, in number, value, state and memory, for every
-- state and every lent memory. So after part of a command exactly its first dots are written.
-- Assumes nothing.
use mathlib.Core.Path.{◌≡◌, refl, sym, ap}
use mathlib.Core.Bool.{Bool, true, false}
use mathlib.Core.List.{[], ◌∷◌}
use Prim.Native.Nat.{ℕ, ◌+◌}
use lib.Dec.{eqb, ltb}
use borrow.Author.Tests.{eqb-true}
use Rattle.basis.proofs.Cases.{cond_case}
use Rattle.picture.specs.Dot.{paint}
use Rattle.picture.proofs.Laws.{paint_append, paint_length}
use Rattle.parts.specs.Refusal.{lowest}
use Rattle.parts.proofs.Laws.{lowest_zero}
use Rattle.rules.specs.Sequence.{Work, Idle, Steps, Clear}
use Rattle.rules.specs.State.{State, with_work, ready_raises}
use Rattle.rules.specs.Figure.{Tables, cycles}
use Rattle.rules.specs.Cycles.{lights, used, dots, rested, after_of, after}
use Rattle.rules.specs.Refusals.{bad, wrong_picture, wrong_table, grant_number}
use Rattle.rules.specs.Calls.{Memory, memory, Outcome, answer, outcome, granted}
use Rattle.rules.proofs.Good.{after_good}
use Rattle.rules.proofs.Split.{joined}

-- granted cycles leave the format and CTRL1
Keeps : State → State → Type 0
Keeps s t = (t.format ≡ s.format) × (t.regs.ctrl1 ≡ s.regs.ctrl1)

after_work : (s : State) (n : ℕ) (w : Work) → Keeps s (after_of s n w)
unfolding Keeps after_of rested ready_raises
after_work s n Idle = (refl, refl)
after_work s n (Steps c p) =
    cond_case (Keeps s) (ltb (p + n) (cycles s.regs c))
    {x = with_work (Steps c (p + n)) (rested s c p (p + n))}
    {y = ready_raises (with_work Idle (rested s c p (p + n)))}
    (λ _. (refl, refl)) (λ _. (refl, refl))
after_work s n (Clear f o) = (refl, refl)

pub after_format : (s : State) (n : ℕ) → (after s n).format ≡ s.format
unfolding Keeps after
after_format s n = (after_work s n s.work).0

pub after_lights : (s : State) (n : ℕ) → lights (after s n).regs ≡ lights s.regs
unfolding Keeps after lights
after_lights s n = rw (after_work s n s.work).1

-- the memory after n cycles
abbrev pub painted : State → Tables → ℕ → Memory → Memory
painted s t n m = memory (paint (lights s.regs) (dots s t n) m.picture)

-- what a grant leaves where it is accepted, and where it is refused
abbrev pub taken : State → ℕ → Memory → Tables → Outcome
taken s n m t = record { answer = record { number = 0; value = used s n; state = after s n }; memory = painted s t n m }

abbrev pub refused : State → ℕ → Memory → Outcome
refused s number m = record { answer = record { number = number; value = 0; state = s }; memory = m }

pub grant_taken : (s : State) (n : ℕ) (m : Memory) (t : Tables) → grant_number s m.picture t ≡ 0 → granted s n m t ≡ taken s n m t
unfolding granted outcome answer
grant_taken s n m t z = rw z

pub grant_refused : (s : State) (n : ℕ) (m : Memory) (t : Tables) → eqb (grant_number s m.picture t) 0 ≡ false
    → granted s n m t ≡ refused s (grant_number s m.picture t) m
unfolding granted outcome answer
grant_refused s n m t f = rw f

-- after an accepted grant the next one is accepted too
next_taken : (s : State) (n : ℕ) (m : Memory) (t : Tables) → grant_number s m.picture t ≡ 0
    → grant_number (after s n) (painted s t n m).picture t ≡ 0
unfolding grant_number wrong_picture lowest
next_taken s n m t z =
    let f = lowest_zero ((1, bad s) ∷ (2, wrong_picture s m.picture) ∷ (3, wrong_table t) ∷ []) tt z in
    rw (after_good s n f.0, after_format s n, paint_length (lights s.regs) (dots s t n) m.picture, f.1.0, f.1.1.0)

-- the two calls and the one
pub record Joins (first then whole : Outcome) : Type 0 where
  pub number : then.answer.number ≡ whole.answer.number
  pub value : first.answer.value + then.answer.value ≡ whole.answer.value
  pub state : then.answer.state ≡ whole.answer.state
  pub memory : then.memory ≡ whole.memory

pub grants_join : (s : State) (j k : ℕ) (m : Memory) (t : Tables)
    → Joins (granted s j m t) (granted (granted s j m t).answer.state k (granted s j m t).memory t) (granted s (j + k) m t)
grants_join s j k m t = go (eqb (grant_number s m.picture t) 0) refl
  where
    go : (b : Bool) → eqb (grant_number s m.picture t) 0 ≡ b
        → Joins (granted s j m t) (granted (granted s j m t).answer.state k (granted s j m t).memory t) (granted s (j + k) m t)
    go true e =
        let z = eqb-true (grant_number s m.picture t) 0 e in
        let all = joined s t j k in
        rw (
          grant_taken s j m t z,
          grant_taken (after s j) k (painted s t j m) t (next_taken s j m t z),
          grant_taken s (j + k) m t z,
        )
        (record {
          number = refl;
          value = sym all.value;
          state = all.state;
          memory =
              ap memory
              (rw (after_lights s j, all.written) (sym (paint_append (lights s.regs) (dots s t j) (dots (after s j) t k) m.picture)));
        })
    go false e =
        rw (grant_refused s j m t e, grant_refused s k m t e, grant_refused s (j + k) m t e)
        (record { number = refl; value = refl; state = refl; memory = refl })
