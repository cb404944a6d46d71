-- Where no clear runs, a VB level leaves what runs, and every memory.
-- Assumes nothing.
use mathlib.Core.Path.{◌≡◌, refl, ap}
use mathlib.Core.Bool.{Bool, true, false, true≢false}
use mathlib.Core.List.{List}
use Prim.Native.Nat.{ℕ}
use lib.Dec.{eqb}
use Rattle.basis.proofs.Cases.{cond_case}
use Rattle.parts.specs.Format.{frames}
use Rattle.rules.specs.Sequence.{Work, Idle, Steps, Clear, work_falls, work_rises, in_last}
use Rattle.rules.specs.State.{State, with_work, with_vb}
use Rattle.rules.specs.Blanking.{ends_clear, picture_vb}
use Rattle.rules.specs.Refusals.{vb_number}
use Rattle.rules.specs.Calls.{Memory, memory, outcome, blanked}

-- a clear runs
abbrev pub clears : Work → Bool
clears Idle = false
clears (Steps c p) = false
clears (Clear f o) = true

-- a fall opens no frame of what is no clear, a rise closes none and ends none
pub falls_same : (w : Work) → clears w ≡ false → work_falls w ≡ w
falls_same Idle n = refl
falls_same (Steps c p) n = refl
falls_same (Clear f o) n = absurd (true≢false n)

pub rises_same : (w : Work) → clears w ≡ false → work_rises w ≡ w
rises_same Idle n = refl
rises_same (Steps c p) n = refl
rises_same (Clear f o) n = absurd (true≢false n)

in_none : (k : ℕ) (w : Work) → clears w ≡ false → in_last k w ≡ false
in_none k Idle n = refl
in_none k (Steps c p) n = refl
in_none k (Clear f o) n = absurd (true≢false n)

pub none_ends : (s : State) → clears s.work ≡ false → ends_clear s ≡ false
none_ends s n = in_none (frames s.format) s.work n

-- so no memory changes
picture_at : (s : State) (w : Work) (vb level : Bool) (picture : List ℕ) → clears w ≡ false
    → picture_vb (with_vb vb (with_work w s)) level picture ≡ picture
unfolding picture_vb
picture_at s Idle true true picture n = refl
picture_at s Idle true false picture n = refl
picture_at s Idle false true picture n = refl
picture_at s Idle false false picture n = refl
picture_at s (Steps c p) true true picture n = refl
picture_at s (Steps c p) true false picture n = refl
picture_at s (Steps c p) false true picture n = refl
picture_at s (Steps c p) false false picture n = refl
picture_at s (Clear f o) vb level picture n = absurd (true≢false n)

pub vb_memory : (s : State) → clears s.work ≡ false → (level : Bool) (m : Memory) → (blanked s level m).memory ≡ m
unfolding blanked outcome
vb_memory s n level m =
    cond_case (λ (x : Memory). x ≡ m) (eqb (vb_number s m.picture) 0)
    (λ _. ap memory (picture_at s s.work s.vb level m.picture n)) λ _. refl
