-- In the call in which ready rises, and whatever call that is, its flag is set where CTRL1 bit 6 is high.
-- Assumes nothing.
use mathlib.Core.Path.{◌≡◌, refl, sym, ap, ◌∙◌}
use mathlib.Core.Bool.{Bool, true, false, ◌||◌, false≢true}
use Prim.Native.Nat.{ℕ, ◌+◌}
use lib.Dec.{eqb, ltb}
use Rattle.basis.proofs.Cases.{cond_case}
use Rattle.picture.specs.Bit.{bit_at}
use Rattle.rules.specs.Sequence.{Work, Idle, Steps, Clear, ready, light_pen_open, work_falls, work_rises}
use Rattle.rules.specs.State.{State, with_work, with_vb, light_pen_raises, vb_raises, ready_raises}
use Rattle.rules.specs.Figure.{cycles}
use Rattle.rules.specs.Cycles.{rested, after_of, after}
use Rattle.rules.specs.Blanking.{fallen, ends_clear, clear_ends, light_pen_ends, risen, after_vb}
use Rattle.rules.specs.Calls.{answer, outcome, written, read_out, granted, blanked, struck}
use Rattle.rules.specs.Card.{Card, Event, W, R, T, VB, LP, outcome_of, next}
use Rattle.rules.proofs.Alike.{read_alike, edge_alike, write_refused, pen_alike}

-- the end of the pen's sequence leaves ready's flag, and a frame's edges leave ready
pen_flag_lem : (s : State) → (light_pen_ends s).flags.ready ≡ s.flags.ready
unfolding light_pen_ends light_pen_raises
pen_flag_lem s = cond_case (λ (t : State). t.flags.ready ≡ s.flags.ready) (light_pen_open s.light_pen) (λ _. refl) λ _. refl

rises_ready : (w : Work) → ready (work_rises w) ≡ ready w
rises_ready Idle = refl
rises_ready (Steps c p) = refl
rises_ready (Clear f o) = refl

falls_ready : (w : Work) → ready (work_falls w) ≡ ready w
falls_ready Idle = refl
falls_ready (Steps c p) = refl
falls_ready (Clear f o) = refl

-- state t comes from s with ready low: where ready is high in t, the flag is as its mask has it
abbrev Flagged : State → State → Type 0
Flagged s t = ready t.work ≡ true → t.flags.ready ≡ (s.flags.ready || bit_at 6 s.regs.ctrl1)

not_ready : (s t : State) → ready s.work ≡ false → ready t.work ≡ ready s.work → Flagged s t
not_ready s t l e h = absurd (false≢true (sym l ∙ sym e ∙ h))

vb_flagged : (s : State) (level : Bool) → ready s.work ≡ false → Flagged s (after_vb s level)
unfolding after_vb fallen risen vb_raises clear_ends ready_raises
vb_flagged s level l =
    cond_case (Flagged s) s.vb
    (λ _. cond_case (Flagged s) level (λ _. not_ready s s l refl) λ _. not_ready s (fallen s) l (falls_ready s.work))
    (λ _. cond_case (Flagged s) level (λ _. ends) λ _. not_ready s s l refl)
  where
    ends : Flagged s (risen s)
    ends =
        cond_case (λ (t : State). Flagged s (with_vb true (vb_raises (light_pen_ends t)))) (ends_clear s)
        (λ _ _. pen_flag_lem (ready_raises (with_work Idle s)))
        (λ _. not_ready s (with_vb true (vb_raises (light_pen_ends (with_work (work_rises s.work) s)))) l (ap ready (pen_alike (with_work (work_rises s.work) s)).work ∙ rises_ready s.work))

after_flagged : (s : State) (n : ℕ) (w : Work) → ready s.work ≡ false → s.work ≡ w → Flagged s (after_of s n w)
unfolding after_of rested ready_raises
after_flagged s n Idle l e = not_ready s s l refl
after_flagged s n (Steps c p) l e =
    cond_case (Flagged s) (ltb (p + n) (cycles s.regs c)) (λ _ h. absurd (false≢true h)) λ _ _. refl
after_flagged s n (Clear f o) l e = not_ready s s l refl

answer_flagged : (number value : ℕ) (t s : State) → ready s.work ≡ false → Flagged s t → Flagged s (answer number value t s).state
unfolding answer
answer_flagged number value t s l h = cond_case (Flagged s) (eqb number 0) (λ _. h) λ _. not_ready s s l refl

pub ready_raises_lem : (c : Card) (e : Event) → ready c.state.work ≡ false → ready (next c e).state.work ≡ true
    → (next c e).state.flags.ready ≡ (c.state.flags.ready || bit_at 6 c.state.regs.ctrl1)
unfolding next outcome_of granted blanked outcome after
ready_raises_lem c (W a v) l = not_ready c.state (written c.state a v).state l (ap (λ (t : State). ready t.work) (write_refused c.state a v l))
ready_raises_lem c (R a) l = not_ready c.state (read_out c.state a).state l (ap ready (read_alike c.state a).work)
ready_raises_lem c (T n) l = answer_flagged _ _ (after c.state n) c.state l (after_flagged c.state n c.state.work l refl)
ready_raises_lem c (VB level) l = answer_flagged _ _ (after_vb c.state level) c.state l (vb_flagged c.state level l)
ready_raises_lem c (LP h v) l = not_ready c.state (struck c.state h v).state l (ap ready (edge_alike c.state h v).work)
