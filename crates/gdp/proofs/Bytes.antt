-- The laws of `modes` and `signals`: what is read from any byte, and what is put into a state's.
-- Assumes nothing.
use mathlib.Core.Path.{◌≡◌, refl, sym, ap, ◌∙◌}
use Prim.Native.Nat.{ℕ, zero, suc, ◌+◌, ◌*◌, ◌/◌, ◌%◌, ◌^◌, ◌<◌}
use mathlib.Core.Bool.{Bool, true, false, cond, not, ◌&&◌, ◌||◌, or-true, or-false, beq}
use native.Mathlib.Nat.{pow-suc, mul_assoc, mul_comm}
use native.Mathlib.Omega.{arith}
use lib.Pow.{mod-pow-add}
use lib.Dec.{T, eqb, ltb, leb, eqb→eq}
use borrow.Author.Tests.{ltb-true, ne_eqb, le-leb}
use Rattle.basis.proofs.Cases.{and_parts}
use Rattle.basis.proofs.Table.{beq_eq, below, passes}
use Rattle.picture.specs.Bit.{digit, bit_at, with_bit}
use Rattle.picture.proofs.Laws.{digit_lt, bit_digit}
use Rattle.parts.specs.declared.format.Format.{Format}
use Rattle.rules.specs.Sequence.{Frames, Work, Idle, Steps, Clear, LightPen, Off, Waiting, Open, ready, no_sequence, clear_open, frames_over, light_pen_open, work_falls, light_pen_falls, work_rises}
use Rattle.rules.specs.State.{Flags, flags}
use Rattle.parts.specs.Format.{format_number, format_at}
use Rattle.gdp.specs.Flat.{light_pen_number, light_pen_at, work_number, code_of, done_of, fills, work_at, modes_of, signals_of, format_in, work_in, light_pen_in, named_modes, named_signals}
use Rattle.gdp.specs.Working.Bits.{stray_light_pen, stray_work, put_work, put_light_pen, raise_flag, in_use, signals_fall, signal_bits, signal_sum}
use Rattle.gdp.proofs.Packing.{light_pen_below, format_part, vb_part, light_pen_part, light_pen_flag_part, vb_flag_part, ready_flag_part}

-- a bit made b: the number less the bit's weight where it was high, and with it where b is
pub bit_sum : (b : Bool) (k v : ℕ) → with_bit b k v + 2 ^ k * digit (bit_at k v) ≡ v + 2 ^ k * digit b
bit_sum b zero v = omega (arith, bit_digit 0 v)
bit_sum b (suc k) v =
    rw (pow-suc 2 k)
    (weighs (2 ^ k) (digit (bit_at k (v / 2))) (digit b) (with_bit b k (v / 2)) v (bit_sum b k (v / 2)))
  where
    weighs : (p d e w v : ℕ) → w + p * d ≡ v / 2 + p * e → w * 2 + v % 2 + p * 2 * d ≡ v + p * 2 * e
    weighs p d e w v h = omega (arith, twice p d, twice p e)
      where
        twice : (p d : ℕ) → p * 2 * d ≡ p * d * 2
        twice p d = mul_assoc p 2 d ∙ ap (λ (n : ℕ). p * n) (mul_comm 2 d) ∙ sym (mul_assoc p d 2)

-- a number's bits up to bit k are bit k and those below it
pub peel : (v k : ℕ) → v % 2 ^ (1 + k) ≡ digit (bit_at k v) * 2 ^ k + v % 2 ^ k
peel v k = rw (bit_digit k v) (mod-pow-add v 1 k)

-- a number below 3 is that of what it names
format_number_lem : (n : ℕ) → n < 3 → format_number (format_at n) ≡ n
unfolding format_at
format_number_lem zero h = refl
format_number_lem (suc zero) h = refl
format_number_lem (suc (suc zero)) h = refl
format_number_lem (suc (suc (suc n))) h = absurd (omega arith)

light_pen_number_lem : (n : ℕ) → n < 3 → light_pen_number (light_pen_at n) ≡ n
unfolding light_pen_at
light_pen_number_lem zero h = refl
light_pen_number_lem (suc zero) h = refl
light_pen_number_lem (suc (suc zero)) h = refl
light_pen_number_lem (suc (suc (suc n))) h = absurd (omega arith)

-- what runs, as it is put into `modes`
abbrev put_number : Work → ℕ
put_number w = work_number w + 4 * digit (fills w) + 8 * digit (clear_open w) + 16 * frames_over w

-- any `modes` that names a format and a kind of work, with other work put into it
pub named_put : (n m : ℕ) (w : Work) → named_modes m ≡ true → put_number w ≡ n → put_work n m ≡ modes_of (format_at (format_in m)) w
unfolding named_modes modes_of
named_put n m w h e =
    let a = and_parts (ltb (format_in m) 3) (ltb (work_in m) 3) h in
    omega (arith, e, format_number_lem (format_in m) (ltb-true _ _ a.0))

-- a state's `modes` with other work put into it
pub work_put : (n : ℕ) (f : Format) (v w : Work) → put_number w ≡ n → put_work n (modes_of f v) ≡ modes_of f w
unfolding modes_of
work_put n f v w e = rw (format_part f v) (omega (arith, e))

-- any `signals` that names a pen sequence, its unused bits made 0
pub named_signals_lem : (g : ℕ) → named_signals g ≡ true
    → in_use g ≡ signals_of (bit_at 1 g) (light_pen_at (light_pen_in g)) (flags (bit_at 4 g) (bit_at 5 g) (bit_at 6 g))
unfolding named_signals signals_of
named_signals_lem g h =
    rw (light_pen_number_lem (light_pen_in g) (ltb-true _ _ h))
    (joined _ _ _ _ _ _ _ _ _ _ _ _ (mod-pow-add g 6 1) (peel g 6) (peel g 5) (peel g 4) (mod-pow-add g 2 2) (peel g 1))
  where
    joined : (u t s r q p l a b c d n : ℕ) → t ≡ u * 2 + l → t ≡ d * 64 + s → s ≡ c * 32 + r → r ≡ b * 16 + q → q ≡ n * 4 + p → p ≡ a * 2 + l
        → u * 2 ≡ 2 * a + 4 * n + 16 * b + 32 * c + 64 * d
    joined u t s r q p l a b c d n h1 h2 h3 h4 h5 h6 = omega arith

-- a state's `signals` with another pen sequence, without the flags, with another VB
module _ (vb : Bool) (p : LightPen) (g : Flags) where
  pub light_pen_put : (q : LightPen) → put_light_pen (light_pen_number q) (signals_of vb p g) ≡ signals_of vb q g
  unfolding signals_of
  light_pen_put q = puts (digit vb) (light_pen_number p) (digit g.light_pen) (digit g.vb) (digit g.ready) (digit_lt vb) (light_pen_below p)
    where
      puts : (v p a b c : ℕ) → v < 2 → p < 3
          → put_light_pen (light_pen_number q) (2 * v + 4 * p + 16 * a + 32 * b + 64 * c) ≡ 2 * v + 4 * light_pen_number q + 16 * a + 32 * b + 64 * c
      puts v p a b c hv hp =
          let low : (2 * v + 4 * p + 16 * a + 32 * b + 64 * c) % 4 ≡ 2 * v = omega arith in
          let high : (2 * v + 4 * p + 16 * a + 32 * b + 64 * c) / 16 ≡ a + 2 * b + 4 * c = omega arith in
          rw (low, high) (omega arith)

  pub flags_put : signals_of vb p g % 16 ≡ signals_of vb p (flags false false false)
  unfolding signals_of
  flags_put = omega (arith, digit_lt vb, light_pen_below p)

  pub vb_put : (level : Bool) → with_bit level 1 (signals_of vb p g) ≡ signals_of level p g
  unfolding signals_of
  vb_put level = omega (arith, bit_sum level 1 (signals_of vb p g), ap digit (vb_part vb p g))

-- a flag raised where it is let: it was high or is let
raised : (k g h : ℕ) (old b : Bool) → bit_at k g ≡ old → h + 2 ^ k * digit old ≡ g + 2 ^ k * digit (old || b) → raise_flag k b g ≡ h
raised k g h old true o e =
    omega (arith, bit_sum true k g, rw (or-true old) at e, ap (λ (d : Bool). 2 ^ k * digit d) o)
raised k g h old false o e = omega (arith, rw (or-false old) at e)

module _ (vb : Bool) (p : LightPen) (g : Flags) (b : Bool) where
  pub light_pen_flag_put : raise_flag 4 b (signals_of vb p g) ≡ signals_of vb p (flags (g.light_pen || b) g.vb g.ready)
  unfolding signals_of
  light_pen_flag_put =
      raised 4 (signals_of vb p g) _ g.light_pen b (light_pen_flag_part vb p g) (omega arith)

  pub vb_flag_put : raise_flag 5 b (signals_of vb p g) ≡ signals_of vb p (flags g.light_pen (g.vb || b) g.ready)
  unfolding signals_of
  vb_flag_put =
      raised 5 (signals_of vb p g) _ g.vb b (vb_flag_part vb p g) (omega arith)

  pub ready_flag_put : raise_flag 6 b (signals_of vb p g) ≡ signals_of vb p (flags g.light_pen g.vb (g.ready || b))
  unfolding signals_of
  ready_flag_put =
      raised 6 (signals_of vb p g) _ g.ready b (ready_flag_part vb p g) (omega arith)

-- a fall of VB opens the pen's frame, if its sequence waits
pub signals_fall_lem : (vb : Bool) (p : LightPen) (g : Flags) → signals_fall (signals_of vb p g) ≡ signals_of false (light_pen_falls p) g
signals_fall_lem vb p g =
    rw (light_pen_part vb p g, vb_put vb p g false) (falls p)
  where
    falls : (p : LightPen) → cond (eqb (light_pen_number p) 1) (put_light_pen 2 (signals_of false p g)) (signals_of false p g) ≡ signals_of false (light_pen_falls p) g
    falls Off = refl
    falls Waiting = light_pen_put false Waiting g Open
    falls Open = refl

-- neither a fall nor a rise changes a stepping command's code or its progress
pub fall_code : (w : Work) → code_of (work_falls w) ≡ code_of w
fall_code Idle = refl
fall_code (Steps c d) = refl
fall_code (Clear f o) = refl

pub fall_done : (w : Work) → done_of (work_falls w) ≡ done_of w
fall_done Idle = refl
fall_done (Steps c d) = refl
fall_done (Clear f o) = refl

pub rise_code : (w : Work) → code_of (work_rises w) ≡ code_of w
rise_code Idle = refl
rise_code (Steps c d) = refl
rise_code (Clear f o) = refl

pub rise_done : (w : Work) → done_of (work_rises w) ≡ done_of w
rise_done Idle = refl
rise_done (Steps c d) = refl
rise_done (Clear f o) = refl

-- what runs, by any number
pub busy_at : (n c d : ℕ) (f : Bool) (o : Frames) → not (ready (work_at n c d f o)) ≡ not (eqb n 0)
unfolding work_at
busy_at zero c d f o = refl
busy_at (suc zero) c d f o = refl
busy_at (suc (suc n)) c d f o = rw (ne_eqb (suc (suc n)) 0 (λ e. omega arith), ne_eqb (suc (suc n)) 1 (λ e. omega arith)) refl

-- the pen's sequence, by any number
pub light_pen_off_at : (n : ℕ) → eqb n 0 ≡ no_sequence (light_pen_at n)
unfolding light_pen_at
light_pen_off_at zero = refl
light_pen_off_at (suc zero) = refl
light_pen_off_at (suc (suc n)) = rw (ne_eqb (suc (suc n)) 0 (λ e. omega arith), ne_eqb (suc (suc n)) 1 (λ e. omega arith)) refl

pub light_pen_open_at : (n : ℕ) → leb 2 n ≡ light_pen_open (light_pen_at n)
unfolding light_pen_at
light_pen_open_at zero = refl
light_pen_open_at (suc zero) = refl
light_pen_open_at (suc (suc n)) =
    rw (ne_eqb (suc (suc n)) 0 (λ e. omega arith), ne_eqb (suc (suc n)) 1 (λ e. omega arith), le-leb 2 (suc (suc n)) (omega arith)) refl

-- the bits of STATUS that `signals` gives, computed over the 256 bytes
pub signal_bits_lem : (g : ℕ) → g < 256 → signal_sum g ≡ signal_bits g
signal_bits_lem g h = eqb→eq _ _ (passes (λ g. eqb (signal_sum g) (signal_bits g)) 256 tt g h)

-- two tests that agree at the 256 bytes
pub agree : (f g : ℕ → Bool) → T (below (λ n. beq (f n) (g n)) 256) → (n : ℕ) → n < 256 → f n ≡ g n
agree f g t n h = beq_eq _ _ (passes (λ n. beq (f n) (g n)) 256 t n h)

-- the tests of stray bytes
pub stray_light_pen_lem : (g : ℕ) → g < 256 → ltb 4 (g / 2 % 8) ≡ stray_light_pen g
unfolding named_signals light_pen_at
stray_light_pen_lem = agree (λ g. ltb 4 (g / 2 % 8)) stray_light_pen tt

abbrev work_test : Bool → ℕ → Bool
work_test vb m = cond (bit_at 4 m) (bit_at 3 m || (vb && bit_at 6 m)) false

pub stray_work_lem : (vb : Bool) (m : ℕ) → m < 256 → work_test vb m ≡ stray_work vb m
stray_work_lem true = agree (work_test true) (stray_work true) tt
stray_work_lem false = agree (work_test false) (stray_work false) tt
