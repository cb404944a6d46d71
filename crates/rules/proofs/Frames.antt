-- A clear that runs has a frame to come, whatever is called: only a VB rise counts a frame as over, and the last one ends the clear.
-- Assumes nothing.
use mathlib.Core.Path.{◌≡◌, refl, sym, subst}
use mathlib.Core.Bool.{Bool, true, false, cond, ◌&&◌, ◌||◌}
use Prim.Native.Nat.{ℕ, ◌+◌, ◌<◌}
use lib.Dec.{eqb, ltb, leb}
use borrow.Author.Tests.{leb-false}
use Rattle.basis.proofs.Cases.{cond_case}
use Rattle.parts.specs.declared.format.Format.{Format}
use Rattle.parts.specs.Format.{frames}
use Rattle.parts.specs.Command.{kind, prompting}
use Rattle.parts.proofs.Laws.{frames_some}
use Rattle.rules.specs.Sequence.{Work, Idle, Steps, Clear, frames_over, light_pen_open, work_falls, work_rises, in_last}
use Rattle.rules.specs.State.{State, fresh, with_regs, light_pen_raises, vb_raises, ready_raises}
use Rattle.rules.specs.Figure.{Tables, cycles}
use Rattle.rules.specs.Cycles.{rested, after_of, after}
use Rattle.rules.specs.Commands.{commanded, clearing, prompt, begun, after_write}
use Rattle.rules.specs.Blanking.{fallen, ends_clear, clear_ends, light_pen_ends, risen, after_vb}
use Rattle.rules.specs.Calls.{Memory, answer, outcome, written, read_out, granted, blanked, struck}
use Rattle.rules.specs.Working.Frames.{FrameToCome}
use Rattle.rules.proofs.Alike.{Alike, read_alike, edge_alike}

pub fresh_frame : (f : Format) → FrameToCome (fresh f)
unfolding fresh
fresh_frame f = frames_some f

-- a command begins with no frame over
prompt_frame : (s : State) (c : ℕ) → FrameToCome s → FrameToCome (prompt s c)
unfolding prompt ready_raises
prompt_frame s c h =
    cond_case FrameToCome (clearing c) (λ _. frames_some s.format) λ _.
    cond_case FrameToCome (eqb c 0x08 || eqb c 0x09) (λ _. h) λ _. h

begun_frame : (s : State) (c : ℕ) → FrameToCome s → FrameToCome (begun s c)
unfolding begun
begun_frame s c h =
    cond_case FrameToCome (prompting (kind c)) (λ _. prompt_frame (with_regs (commanded s.regs c) s) c h) λ _. frames_some s.format

-- cycles count none
after_frame : (s : State) (n : ℕ) (w : Work) → FrameToCome s → FrameToCome (after_of s n w)
unfolding after_of rested ready_raises
after_frame s n Idle h = h
after_frame s n (Steps c p) h = cond_case FrameToCome (ltb (p + n) (cycles s.regs c)) (λ _. frames_some s.format) λ _. frames_some s.format
after_frame s n (Clear f o) h = h

-- a fall opens one; a rise closes it
falls_over : (w : Work) → frames_over (work_falls w) ≡ frames_over w
falls_over Idle = refl
falls_over (Steps c p) = refl
falls_over (Clear f o) = refl

rises_over : (k : ℕ) (w : Work) → in_last k w ≡ false → frames_over w < k → frames_over (work_rises w) < k
rises_over k Idle e h = h
rises_over k (Steps c p) e h = h
rises_over k (Clear f o) e h = closes o.inside e
  where
    closes : (b : Bool) → (b && leb k (o.over + 1)) ≡ false → cond b (o.over + 1) o.over < k
    closes true e = leb-false k (o.over + 1) e
    closes false e = h

ends_frame : (s : State) → FrameToCome s → FrameToCome (light_pen_ends (clear_ends s))
unfolding light_pen_ends clear_ends light_pen_raises ready_raises
ends_frame s h =
    cond_case (λ (t : State). FrameToCome (light_pen_ends t)) (ends_clear s)
    (λ _. cond_case FrameToCome (light_pen_open s.light_pen) (λ _. frames_some s.format) λ _. frames_some s.format)
    (λ e. cond_case FrameToCome (light_pen_open s.light_pen) (λ _. rises_over _ s.work e h) λ _. rises_over _ s.work e h)

vb_frame : (s : State) (level : Bool) → FrameToCome s → FrameToCome (after_vb s level)
unfolding after_vb fallen risen vb_raises
vb_frame s level h =
    cond_case FrameToCome s.vb
    (λ _. cond_case FrameToCome level (λ _. h) λ _. subst (λ (n : ℕ). n < frames s.format) (sym (falls_over s.work)) h)
    (λ _. cond_case FrameToCome level (λ _. ends_frame s h) λ _. h)

-- a call that changes nothing of a clear
alike_frame : {s t : State} → Alike s t → FrameToCome s → FrameToCome t
alike_frame a h = rw (a.work, a.format) h

-- what a call answers
answer_frame : (number value : ℕ) (next s : State) → FrameToCome next → FrameToCome s → FrameToCome (answer number value next s).state
unfolding answer
answer_frame number value next s h k = cond_case FrameToCome (eqb number 0) (λ _. h) λ _. k

module _ (s : State) (h : FrameToCome s) where
  pub write_frame : (a v : ℕ) → FrameToCome (written s a v).state
  unfolding written after_write
  write_frame a v = answer_frame _ _ (after_write s a v) s (cond_case FrameToCome (eqb a 0x0) (λ _. begun_frame s v h) λ _. h) h

  pub read_frame : (a : ℕ) → FrameToCome (read_out s a).state
  read_frame a = alike_frame (read_alike s a) h

  pub grant_frame : (n : ℕ) (m : Memory) (t : Tables) → FrameToCome (granted s n m t).answer.state
  unfolding granted outcome after
  grant_frame n m t = answer_frame _ _ (after s n) s (after_frame s n s.work h) h

  pub blank_frame : (level : Bool) (m : Memory) → FrameToCome (blanked s level m).answer.state
  unfolding blanked outcome
  blank_frame level m = answer_frame _ _ (after_vb s level) s (vb_frame s level h) h

  pub edge_frame : (x y : ℕ) → FrameToCome (struck s x y).state
  edge_frame x y = alike_frame (edge_alike s x y) h
