-- A call over the bytes of a state is the definition's own call, its answer as bytes; worked examples of the bytes.
-- Assumes nothing.
use mathlib.Core.Path.{◌≡◌, refl, ap, ◌∙◌}
use Prim.Native.Nat.{ℕ}
use mathlib.Core.Bool.{Bool, true, false, cond}
use mathlib.Core.List.{List}
use lib.Dec.{eqb}
use Rattle.parts.specs.declared.format.Format.TheVariants.{Ef9366, FmatHigh, FmatLow}
use Rattle.rules.specs.Sequence.{Idle, Steps, Clear, Off, Waiting, Open}
use Rattle.rules.specs.State.{State, flags}
use Rattle.rules.specs.Working.Frames.{FrameToCome}
use Rattle.rules.specs.Figure.{tables}
use Rattle.rules.specs.Calls.{answer, Memory, memory, Outcome, outcome, Located, written, read_out, granted, blanked, struck, located}
use Rattle.gdp.specs.declared.state.Answer.{Answer}
use Rattle.gdp.specs.declared.address.Outputs.{Outputs}
use Rattle.gdp.specs.Flat.{modes_of, signals_of, flat, named_modes, named, state_of}
use Rattle.gdp.specs.Calls.{answer_of, Leaves, Grants, Blanks, outputs_of, all_ones}
use Rattle.gdp.specs.Working.Steps.{flat_answer}
use Rattle.gdp.proofs.Packing.{back, flat_named}

-- a refusal hands back the bytes of the state as it hands back the state
once : (z : Bool) (s next : State) → cond z (flat (cond z next s)) (flat s) ≡ flat (cond z next s)
once true s next = refl
once false s next = refl

answer_across : (n v : ℕ) (next s : State) → answer_of (flat s) (answer n v next s) ≡ flat_answer (answer n v next s)
unfolding answer_of answer flat_answer
answer_across n v next s = rw (flat_named s, once (eqb n 0) s next) refl

-- so with each call
pub written_across : (s : State) → FrameToCome s → (a v : ℕ) → answer_of (flat s) (written (state_of (flat s)) a v) ≡ flat_answer (written s a v)
unfolding written
written_across s k a v = ap (λ (t : State). answer_of (flat s) (written t a v)) (back s k) ∙ answer_across _ _ _ s

pub read_across : (s : State) → FrameToCome s → (a : ℕ) → answer_of (flat s) (read_out (state_of (flat s)) a) ≡ flat_answer (read_out s a)
unfolding read_out
read_across s k a = ap (λ (t : State). answer_of (flat s) (read_out t a)) (back s k) ∙ answer_across _ _ _ s

pub struck_across : (s : State) → FrameToCome s → (h v : ℕ) → answer_of (flat s) (struck (state_of (flat s)) h v) ≡ flat_answer (struck s h v)
unfolding struck
struck_across s k h v = ap (λ (t : State). answer_of (flat s) (struck t h v)) (back s k) ∙ answer_across _ _ _ s

-- the address outputs as bytes
abbrev pub flat_outputs : Located → Outputs
flat_outputs l = record { number = l.number; low = l.address.low; high = l.address.high; msl = l.address.msl }

pub located_across : (s : State) → FrameToCome s → outputs_of (flat s) (located (state_of (flat s))) ≡ flat_outputs (located s)
unfolding outputs_of
located_across s k = rw (flat_named s, back s k) refl

-- a call that is lent memories leaves what the definition leaves, its answer as bytes
pub record Crosses (o : Outcome) (r : Answer) (left : Memory) : Type 0 where
  pub answers : r ≡ flat_answer o.answer
  pub memories : left ≡ o.memory

leaves_across : (n v : ℕ) (next : State) (changed : Memory) (s : State) (m : Memory) {r : Answer} {left : Memory}
    → Leaves (flat s) (outcome n v next changed s m) m r left → Crosses (outcome n v next changed s m) r left
unfolding outcome
leaves_across n v next changed s m l =
    record { answers = l.answers ∙ answer_across n v next s; memories = l.memories ∙ rw (flat_named s) refl }

pub granted_across : (s : State) → FrameToCome s → (n : ℕ) (picture table : List ℕ) {r : Answer} {p : List ℕ} → Grants (flat s) n picture table r p
    → Crosses (granted s n (memory picture) (tables table)) r (memory p)
unfolding granted
granted_across s k n picture table l = leaves_across _ _ _ _ s (memory picture) (rw (back s k) at l)

pub blanked_across : (s : State) → FrameToCome s → (level : Bool) (picture : List ℕ) {r : Answer} {p : List ℕ} → Blanks (flat s) level picture r p
    → Crosses (blanked s level (memory picture)) r (memory p)
unfolding blanked
blanked_across s k level picture l = leaves_across _ _ _ _ s (memory picture) (rw (back s k) at l)

-- bytes of ones stand for no state
pub ones_stand_for_none : named all_ones ≡ false
unfolding named_modes all_ones
ones_stand_for_none = refl

-- worked examples: a clear 0C inside its first frame on FMAT high, and inside its second; a command that steps on FMAT low; nothing
-- runs on EF9366
pub clear_modes : modes_of FmatHigh (Clear true (record { inside = true; over = 0 })) ≡ 0x71
unfolding modes_of
clear_modes = refl

pub second_modes : modes_of FmatHigh (Clear true (record { inside = true; over = 1 })) ≡ 0xF1
unfolding modes_of
second_modes = refl

pub steps_modes : modes_of FmatLow (Steps 0x41 7) ≡ 0x0A
unfolding modes_of
steps_modes = refl

pub idle_modes : modes_of Ef9366 Idle ≡ 0
unfolding modes_of
idle_modes = refl

-- VB and the flag of ready; the pen waits, with its flag and VB's; the pen in its frame; nothing
pub vb_ready_signals : signals_of true Off (flags false false true) ≡ 0x42
unfolding signals_of
vb_ready_signals = refl

pub light_pen_vb_signals : signals_of false Waiting (flags true true false) ≡ 0x34
unfolding signals_of
light_pen_vb_signals = refl

pub open_signals : signals_of false Open (flags false false false) ≡ 8
unfolding signals_of
open_signals = refl

pub fresh_signals : signals_of false Off (flags false false false) ≡ 0
unfolding signals_of
fresh_signals = refl
