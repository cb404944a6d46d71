-- The bytes of a state stand for it, whatever its numbers, where a clear that runs has a frame to come.
-- Assumes nothing.
use mathlib.Core.Path.{◌≡◌, refl, ap, ◌∙◌}
use Prim.Native.Nat.{ℕ, ◌-◌, ◌/◌, ◌%◌, ◌^◌, ◌<◌, min}
use mathlib.Core.Bool.{Bool, true, false}
use native.Mathlib.Omega.{arith}
use lib.Dec.{eqb}
use borrow.Author.Tests.{lt-ltb}
use Rattle.basis.proofs.Cases.{cond_case}
use Rattle.picture.specs.Bit.{digit, bit_at}
use Rattle.picture.proofs.Laws.{digit_lt, bit_shift}
use Rattle.parts.specs.declared.format.Format.{Format}
use Rattle.parts.specs.declared.format.Format.TheVariants.{Ef9366, FmatHigh, FmatLow}
use Rattle.parts.specs.Format.{format_number, format_at, frames}
use Rattle.parts.proofs.Laws.{frames_some}
use Rattle.rules.specs.Sequence.{Frames, Work, Idle, Steps, Clear, LightPen, Off, Waiting, Open, clear_open, frames_over}
use Rattle.rules.specs.State.{Flags, State}
use Rattle.rules.specs.Working.Frames.{FrameToCome}
use Rattle.gdp.specs.declared.state.Gdp.{Gdp}
use Rattle.gdp.specs.Flat.{light_pen_number, light_pen_at, work_number, code_of, done_of, fills, work_at, modes_of, signals_of, flat, format_in, work_in, light_pen_in, named_modes, named_signals, named, format_of, frames_in, state_of}

-- each number is below 3
pub format_below : (f : Format) → format_number f < 3
format_below Ef9366 = omega arith
format_below FmatHigh = omega arith
format_below FmatLow = omega arith

pub light_pen_below : (p : LightPen) → light_pen_number p < 3
light_pen_below Off = omega arith
light_pen_below Waiting = omega arith
light_pen_below Open = omega arith

pub work_below : (w : Work) → work_number w < 3
work_below Idle = omega arith
work_below (Steps c d) = omega arith
work_below (Clear f o) = omega arith

-- and stands for what it was; so does the digit of a bit
bit_back : (k v : ℕ) (b : Bool) → v / 2 ^ k % 2 ≡ digit b → bit_at k v ≡ b
bit_back k v b e = bit_shift k v ∙ ap (λ (n : ℕ). eqb n 1) e ∙ test b
  where
    test : (b : Bool) → eqb (digit b) 1 ≡ b
    test true = refl
    test false = refl

format_at_lem : (f : Format) → format_at (format_number f) ≡ f
unfolding format_at
format_at_lem Ef9366 = refl
format_at_lem FmatHigh = refl
format_at_lem FmatLow = refl

pub light_pen_at_lem : (p : LightPen) → light_pen_at (light_pen_number p) ≡ p
unfolding light_pen_at
light_pen_at_lem Off = refl
light_pen_at_lem Waiting = refl
light_pen_at_lem Open = refl

abbrev frames_of : Work → Frames
frames_of w = record { inside = clear_open w; over = frames_over w }

work_at_lem : (w : Work) → work_at (work_number w) (code_of w) (done_of w) (fills w) (frames_of w) ≡ w
unfolding work_at
work_at_lem Idle = refl
work_at_lem (Steps c d) = refl
work_at_lem (Clear f o) = refl

-- the parts of `modes` do not run into each other
module _ (f : Format) (w : Work) where
  pub format_part : format_in (modes_of f w) ≡ format_number f
  unfolding modes_of
  format_part = omega (arith, format_below f)

  pub work_part : work_in (modes_of f w) ≡ work_number w
  unfolding modes_of
  work_part = omega (arith, format_below f, work_below w)

  pub fill_part : bit_at 5 (modes_of f w) ≡ fills w
  unfolding modes_of
  fill_part = bit_back 5 (modes_of f w) (fills w) (omega (arith, format_below f, work_below w, digit_lt (fills w)))

  pub open_part : bit_at 6 (modes_of f w) ≡ clear_open w
  unfolding modes_of
  open_part =
      bit_back 6 (modes_of f w) (clear_open w) (omega (arith, format_below f, work_below w, digit_lt (fills w), digit_lt (clear_open w)))

  over_part : modes_of f w / 128 ≡ frames_over w
  unfolding modes_of
  over_part = omega (arith, format_below f, work_below w, digit_lt (fills w), digit_lt (clear_open w))

  frames_part : frames_over w < frames f → frames_in (modes_of f w) ≡ frames_of w
  unfolding frames_in
  frames_part h = rw (open_part, over_part, format_part, format_at_lem f) (λ j. record { inside = clear_open w; over = least (frames_over w) (frames f) h j })
    where
      least : (n k : ℕ) → n < k → min n (k - 1) ≡ n
      least n k h = omega arith

-- nor do those of `signals`
module _ (vb : Bool) (p : LightPen) (g : Flags) where
  pub vb_part : bit_at 1 (signals_of vb p g) ≡ vb
  unfolding signals_of
  vb_part = bit_back 1 (signals_of vb p g) vb (omega (arith, digit_lt vb))

  pub light_pen_part : light_pen_in (signals_of vb p g) ≡ light_pen_number p
  unfolding signals_of
  light_pen_part = omega (arith, digit_lt vb, light_pen_below p)

  pub light_pen_flag_part : bit_at 4 (signals_of vb p g) ≡ g.light_pen
  unfolding signals_of
  light_pen_flag_part =
      bit_back 4 (signals_of vb p g) g.light_pen (omega (arith, digit_lt vb, light_pen_below p, digit_lt g.light_pen))

  pub vb_flag_part : bit_at 5 (signals_of vb p g) ≡ g.vb
  unfolding signals_of
  vb_flag_part =
      bit_back 5 (signals_of vb p g) g.vb (omega (arith, digit_lt vb, light_pen_below p, digit_lt g.light_pen, digit_lt g.vb))

  pub ready_flag_part : bit_at 6 (signals_of vb p g) ≡ g.ready
  unfolding signals_of
  ready_flag_part =
      bit_back 6 (signals_of vb p g) g.ready
      (omega (arith, digit_lt vb, light_pen_below p, digit_lt g.light_pen, digit_lt g.vb, digit_lt g.ready))

-- a state comes back as it went
pub back : (s : State) → FrameToCome s → state_of (flat s) ≡ s
unfolding flat state_of
back s h =
    simp (
      format_part,
      work_part,
      fill_part,
      frames_part s.format s.work h,
      vb_part,
      light_pen_part,
      light_pen_flag_part,
      vb_flag_part,
      ready_flag_part,
      format_at_lem,
      light_pen_at_lem,
      work_at_lem,
    )

-- what bytes stand for is such a state
pub stands_frame : (b : Gdp) → FrameToCome (state_of b)
unfolding state_of work_at frames_in
stands_frame b =
    cond_case (λ (w : Work). frames_over w < frames (format_of b)) (eqb (work_in b.modes) 0) (λ _. frames_some (format_of b)) λ _.
    cond_case (λ (w : Work). frames_over w < frames (format_of b)) (eqb (work_in b.modes) 1) (λ _. frames_some (format_of b)) λ _.
    least (b.modes / 128) (frames (format_of b)) (frames_some (format_of b))
  where
    least : (n k : ℕ) → 0 < k → min n (k - 1) < k
    least n k h = omega arith

-- and its bytes name their format, work and pen sequence
pub flat_named : (s : State) → named (flat s) ≡ true
unfolding flat named_modes named_signals
flat_named s =
    simp (
      format_part,
      work_part,
      light_pen_part,
      lt-ltb (format_number s.format) 3 (format_below s.format),
      lt-ltb (work_number s.work) 3 (work_below s.work),
      lt-ltb (light_pen_number s.light_pen) 3 (light_pen_below s.light_pen),
    )
