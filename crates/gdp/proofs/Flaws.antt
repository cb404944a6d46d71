-- What runs, by the bytes, and refusal 1 in its two parts: stray bytes, or a stepping command that cannot have come so far.
-- Assumes nothing.
use mathlib.Core.Path.{◌≡◌, refl}
use mathlib.Core.Bool.{Bool, true, false, cond, not, ◌&&◌, ◌||◌, or-true, or-false, true≢false}
use lib.Dec.{eqb, ltb}
use borrow.Author.Tests.{ne_eqb, eqb-true, eqb-false}
use Rattle.picture.specs.Bit.{bit_at}
use Rattle.rules.specs.Sequence.{Work, Idle, Steps, Clear, ready, clear_open, light_pen_open}
use Rattle.rules.specs.State.{Regs, State, with_work}
use Rattle.rules.specs.Refusals.{bad_regs, bad_work, bad, busy}
use Rattle.gdp.specs.declared.state.Gdp.{Gdp}
use Rattle.gdp.specs.Flat.{light_pen_at, work_at, format_in, work_in, light_pen_in, named_modes, named_signals, named, regs_of, frames_in, state_of}
use Rattle.gdp.specs.Calls.{flawed}
use Rattle.gdp.specs.Working.Bits.{clear_open_in, stray_light_pen, stray_work}
use Rattle.gdp.specs.Working.Check.{stray, bad_step, bad_steps}
use Rattle.gdp.proofs.ClearBytes.{clear_open_lem}

-- where nothing runs, nothing running put into the state leaves it
pub rests : (s : State) → busy s ≡ false → with_work Idle s ≡ s
unfolding busy
rests s = from s.work
  where
    from : (w : Work) → not (ready w) ≡ false → with_work Idle s ≡ with_work w s
    from Idle e = refl
    from (Steps c d) e = absurd (true≢false e)
    from (Clear f o) e = absurd (true≢false e)

-- what runs, by its number
pub idle_rests : (b : Gdp) → work_in b.modes ≡ 0 → busy (state_of b) ≡ false
unfolding busy state_of work_at
idle_rests b e = rw e refl

pub steps_run : (b : Gdp) → work_in b.modes ≡ 1 → (state_of b).work ≡ Steps b.code b.done
unfolding state_of work_at
steps_run b e = rw e refl

pub others_run : (b : Gdp) → (work_in b.modes ≡ 1 → ⊥)
    → (state_of b).work ≡ cond (eqb (work_in b.modes) 0) Idle (Clear (bit_at 5 b.modes) (frames_in b.modes))
unfolding state_of work_at
others_run b h = rw (ne_eqb (work_in b.modes) 1 h) refl

-- bytes that are not refused with 1 name something
pub sound_named : (b : Gdp) → flawed b ≡ false → named b ≡ true
unfolding flawed
sound_named b = from (named b) (bad (state_of b))
  where
    from : (n f : Bool) → (not n || f) ≡ false → n ≡ true
    from true f e = refl
    from false f e = absurd (true≢false e)

-- a test is the choice that it makes
case : (b : Bool) → b ≡ cond b true false
case true = refl
case false = refl

-- refusal 1 in its two parts, over the tests that they are made of, and over bytes
parts : (n r vb p : Bool) (regs : Regs) (w : Work) → (not n || (r || bad_work regs vb w || (vb && p)))
    ≡ cond (not n || r || (vb && (clear_open w || p))) true (bad_steps regs w)
unfolding bad_work bad_step
parts false r vb p regs w = refl
parts true true vb p regs w = refl
parts true false false p regs Idle = refl
parts true false false p regs (Steps c d) = or-false (bad_step regs c d)
parts true false false p regs (Clear f o) = refl
parts true false true p regs Idle = case p
parts true false true true regs (Steps c d) = or-true (bad_step regs c d)
parts true false true false regs (Steps c d) = or-false (bad_step regs c d)
parts true false true p regs (Clear f o) = case (o.inside || p)

pub flawed_parts : (b : Gdp) → flawed b ≡ cond (stray b) true (bad_steps (regs_of b) (state_of b).work)
unfolding flawed stray bad state_of
flawed_parts b = parts (named b) (bad_regs (regs_of b)) (state_of b).vb (light_pen_open (state_of b).light_pen) (regs_of b) (state_of b).work

-- stray bytes are refused with 1; of the others only those of a stepping command can be
pub stray_flawed : (b : Gdp) → stray b ≡ true → flawed b ≡ true
stray_flawed b e = rw (flawed_parts b, e) refl

pub steps_flawed : (b : Gdp) → stray b ≡ false → work_in b.modes ≡ 1 → flawed b ≡ bad_step (regs_of b) b.code b.done
steps_flawed b e h = rw (flawed_parts b, e, steps_run b h) refl

pub others_sound : (b : Gdp) → stray b ≡ false → (work_in b.modes ≡ 1 → ⊥) → flawed b ≡ false
others_sound b e h = rw (flawed_parts b, e, others_run b h) (none (eqb (work_in b.modes) 0))
  where
    none : (z : Bool) → bad_steps (regs_of b) (cond z Idle (Clear (bit_at 5 b.modes) (frames_in b.modes))) ≡ false
    none true = refl
    none false = refl

-- the same two parts where the kind of work is told by a test
pub step_flawed : (b : Gdp) → stray b ≡ false → eqb (work_in b.modes) 1 ≡ true → flawed b ≡ bad_step (regs_of b) b.code b.done
step_flawed b e t = steps_flawed b e (eqb-true _ _ t)

pub other_sound : (b : Gdp) → stray b ≡ false → eqb (work_in b.modes) 1 ≡ false → flawed b ≡ false
other_sound b e f = others_sound b e (eqb-false _ _ f)

-- stray bytes, in the order of the code's tests: registers, format and pen first, then what runs
sorted : (f w p r vb o q : Bool) → (not ((f && w) && p) || r || (vb && (o || q)))
    ≡ cond ((r || not f) || (not p || (vb && q))) true (not w || (vb && o))
sorted false w p true vb o q = refl
sorted false w p false vb o q = refl
sorted true false p r vb o q = always ((r || false) || (not p || (vb && q)))
  where
    always : (b : Bool) → true ≡ cond b true true
    always true = refl
    always false = refl
sorted true true false true vb o q = refl
sorted true true false false vb o q = refl
sorted true true true true vb o q = refl
sorted true true true false false o q = refl
sorted true true true false true o true = or-true o
sorted true true true false true o false = or-false o

pub stray_sorted : (b : Gdp) → stray b
    ≡ cond ((bad_regs (regs_of b) || not (ltb (format_in b.modes) 3)) || stray_light_pen b.signals) true (stray_work (bit_at 1 b.signals) b.modes)
unfolding stray state_of named_modes
stray_sorted b =
    rw (← clear_open_lem b.modes b.code b.done (bit_at 5 b.modes))
    (sorted (ltb (format_in b.modes) 3) (ltb (work_in b.modes) 3) (named_signals b.signals) (bad_regs (regs_of b)) (bit_at 1 b.signals) (clear_open_in b.modes) (light_pen_open (light_pen_at (light_pen_in b.signals))))

-- bytes that are not stray name something
pub plain_named : (b : Gdp) → stray b ≡ false → named b ≡ true
unfolding stray
plain_named b e = from (named b) _ _ e
  where
    from : (n r f : Bool) → (not n || r || f) ≡ false → n ≡ true
    from true r f e = refl
    from false r f e = absurd (true≢false e)
