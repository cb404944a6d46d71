-- Calls that change nothing of a clear: reads, edges, grants where no cycle is left, writes while a command runs.
-- Assumes nothing.
use mathlib.Core.Path.{◌≡◌, refl, sym, ◌∙◌}
use mathlib.Core.Bool.{true, false, ◌||◌, false≢true}
use Prim.Native.Nat.{ℕ}
use lib.Dec.{eqb}
use borrow.Author.Tests.{eqb-true}
use Rattle.basis.proofs.Cases.{cond_case}
use Rattle.rules.specs.Sequence.{ready, light_pen_open}
use Rattle.rules.specs.State.{State, light_pen_raises}
use Rattle.rules.specs.Registers.{light_pen_read, after_read}
use Rattle.rules.specs.Figure.{Tables}
use Rattle.rules.specs.Blanking.{light_pen_ends, after_edge}
use Rattle.rules.specs.Refusals.{write_number, read_number, grant_number, edge_number}
use Rattle.rules.specs.Calls.{Memory, answer, outcome, written, read_out, granted, struck}
use Rattle.rules.specs.Card.{Card, W, outcome_of, next}
use Rattle.rules.proofs.Good.{write_accepted}
use Rattle.rules.proofs.Split.{Still}

-- state t is s as far as a clear goes
pub record Alike (s t : State) : Type 0 where
  pub work : t.work ≡ s.work
  pub vb : t.vb ≡ s.vb
  pub format : t.format ≡ s.format
  pub ctrl1 : t.regs.ctrl1 ≡ s.regs.ctrl1
  pub flag : t.flags.ready ≡ true → s.flags.ready ≡ true

pub alike : {s t : State} → t.work ≡ s.work → t.vb ≡ s.vb → t.format ≡ s.format → t.regs.ctrl1 ≡ s.regs.ctrl1
    → (t.flags.ready ≡ true → s.flags.ready ≡ true) → Alike s t
alike w v f c g = record { work = w; vb = v; format = f; ctrl1 = c; flag = g }

pub same : {s : State} → Alike s s
same = alike refl refl refl refl (λ x. x)

-- a read clears the flags or bit 0 of XLP, an edge loads XLP and YLP and ends the pen's sequence
pub read_alike : (s : State) (a : ℕ) → Alike s (read_out s a).state
unfolding read_out answer after_read light_pen_read
read_alike s a =
    cond_case (Alike s) (eqb (read_number s a) 0)
    (λ _. cond_case (Alike s) (eqb a 0x0) (λ _. alike refl refl refl refl (λ e. absurd (false≢true e))) λ _.
    cond_case (Alike s) (eqb a 0xC || eqb a 0xD) (λ _. alike refl refl refl refl (λ x. x)) λ _. same)
    λ _. same

pub edge_alike : (s : State) (h v : ℕ) → Alike s (struck s h v).state
unfolding struck answer after_edge light_pen_raises
edge_alike s h v =
    cond_case (Alike s) (eqb (edge_number s h v) 0)
    (λ _. cond_case (Alike s) (light_pen_open s.light_pen) (λ _. alike refl refl refl refl (λ x. x)) λ _. same)
    λ _. same

-- a grant has no cycle to use
pub grant_alike : (s : State) (n : ℕ) (m : Memory) (t : Tables) → Still s → Alike s (granted s n m t).answer.state
unfolding granted outcome answer
grant_alike s n m t i = rw (i.stays n) (cond_case (Alike s) (eqb (grant_number s m.picture t) 0) (λ _. same) λ _. same)

pub grant_memory : (s : State) (n : ℕ) (m : Memory) (t : Tables) → Still s → (granted s n m t).memory ≡ m
unfolding granted outcome
grant_memory s n m t i =
    rw (i.blank t n) (cond_case (λ (x : Memory). x ≡ m) (eqb (grant_number s m.picture t) 0) (λ _. refl) λ _. refl)

-- a write is refused
pub write_refused : (s : State) (a v : ℕ) → ready s.work ≡ false → (written s a v).state ≡ s
unfolding written answer
write_refused s a v busy =
    cond_case (λ (t : State). t ≡ s) (eqb (write_number s a) 0)
    (λ z. absurd (false≢true (sym busy ∙ (write_accepted s a (eqb-true _ _ z)).1))) λ _. refl

pub wrote : (c : Card) (a v : ℕ) → ready c.state.work ≡ false → next c (W a v) ≡ c
unfolding next outcome_of
wrote c a v busy j = record { state = write_refused c.state a v busy j; memory = c.memory; tables = c.tables }

-- the end of the pen's sequence
pub pen_alike : (s : State) → Alike s (light_pen_ends s)
unfolding light_pen_ends light_pen_raises
pen_alike s = cond_case (Alike s) (light_pen_open s.light_pen) (λ _. alike refl refl refl refl (λ x. x)) λ _. same
