-- The laws of a clear's bits of `modes`: whether it fills, and its frames.
-- Assumes nothing.
use mathlib.Core.Path.{◌≡◌, refl, sym, ap, ◌∙◌}
use mathlib.Core.Logic.{◌⊎◌, inl, inr}
use Prim.Native.Nat.{ℕ, zero, suc, ◌+◌, ◌-◌, ◌*◌, ◌/◌, ◌%◌, ◌<◌, min}
use mathlib.Core.Bool.{Bool, true, false, cond, ◌&&◌, false≢true}
use native.Mathlib.Omega.{arith}
use lib.Pow.{mod-pow-add}
use lib.Dec.{eqb, ltb, leb}
use borrow.Author.Tests.{ltb-true, ne_eqb, leb-true, leb-false, le-leb, lt-leb}
use Rattle.basis.proofs.Cases.{split, and_parts}
use Rattle.picture.specs.Bit.{digit, bit_at}
use Rattle.picture.proofs.Laws.{digit_lt}
use Rattle.parts.specs.declared.format.Format.{Format}
use Rattle.parts.specs.Format.{format_at, frames}
use Rattle.parts.proofs.Laws.{frames_some, frames_most}
use Rattle.rules.specs.Sequence.{Frames, Work, Idle, Steps, Clear, clear_open, work_falls, work_rises, in_last, clear_lights}
use Rattle.gdp.specs.Flat.{work_number, work_at, modes_of, format_in, work_in, named_modes, over_in, frames_in}
use Rattle.gdp.specs.Working.Bits.{clear_open_in, modes_fall, modes_rise}
use Rattle.gdp.proofs.Packing.{format_below, work_part, open_part}
use Rattle.gdp.proofs.Bytes.{bit_sum, peel, named_put}

-- where neither nothing nor a stepping command runs, a clear does, and its byte stands but for bit 7 where it is not in use
pub clear_runs : (m : ℕ) → named_modes m ≡ true → (work_in m ≡ 0 → ⊥) → (work_in m ≡ 1 → ⊥) → work_in m ≡ 2
unfolding named_modes
clear_runs m h k l =
    let a = and_parts (ltb (format_in m) 3) (ltb (work_in m) 3) h in
    omega (arith, ltb-true (work_in m) 3 a.1)

pub clear_kept : (m : ℕ) → named_modes m ≡ true → work_in m ≡ 2
    → m % 128 + 128 * over_in m ≡ modes_of (format_at (format_in m)) (Clear (bit_at 5 m) (frames_in m))
unfolding frames_in
clear_kept m h e =
    joined _ _ _ _ _ _ _ (over_in m) (peel m 6) (peel m 5) (mod-pow-add m 2 3) e ∙ named_put _ m (Clear (bit_at 5 m) (frames_in m)) h refl
  where
    joined : (x y z r p q w n : ℕ) → x ≡ q * 64 + y → y ≡ p * 32 + z → z ≡ w * 8 + r → w ≡ 2 → x + 128 * n ≡ r + 8 * (2 + 4 * p + 8 * q + 16 * n)
    joined x y z r p q w n hx hy hz hw = omega arith

-- a fall of VB opens the frame that a clear waits for
clear_opens : (f : Format) (l : Bool) (o : Frames) → modes_fall (modes_of f (Clear l o)) ≡ modes_of f (work_falls (Clear l o))
unfolding modes_of
clear_opens f l o =
    rw (work_part f (Clear l o)) (omega (arith, bit_sum true 6 (modes_of f (Clear l o)), ap digit (open_part f (Clear l o))))

pub modes_fall_lem : (f : Format) (w : Work) → modes_fall (modes_of f w) ≡ modes_of f (work_falls w)
modes_fall_lem f Idle = rw (work_part f Idle) refl
modes_fall_lem f (Steps c d) = rw (work_part f (Steps c d)) refl
modes_fall_lem f (Clear l o) = clear_opens f l o

-- a rise that does not end the clear ends its first frame, if that is open
clear_bits : (m : ℕ) → clear_open_in m ≡ (eqb (work_in m / 2) 1 && bit_at 6 m)
clear_bits m = let e : work_in m / 2 ≡ m / 2 / 2 / 2 / 2 % 2 = omega arith in rw e refl

clear_byte : (f : Format) (w : Work) → clear_open_in (modes_of f w) ≡ clear_open w
clear_byte f w = clear_bits (modes_of f w) ∙ rw (work_part f w, open_part f w) (from w)
  where
    from : (w : Work) → (eqb (work_number w / 2) 1 && clear_open w) ≡ clear_open w
    from Idle = refl
    from (Steps c d) = refl
    from (Clear l o) = refl

pub modes_rise_lem : (f : Format) (w : Work) → in_last (frames f) w ≡ false → modes_rise (modes_of f w) ≡ modes_of f (work_rises w)
unfolding modes_of
modes_rise_lem f Idle e = rw (clear_byte f Idle) refl
modes_rise_lem f (Steps c d) e = rw (clear_byte f (Steps c d)) refl
modes_rise_lem f (Clear l o) e = rw (clear_byte f (Clear l o)) (closes o.inside o.over e)
  where
    closes : (b : Bool) (n : ℕ) → (b && leb (frames f) (n + 1)) ≡ false
        → cond b (modes_of f (Clear l (record { inside = b; over = n })) % 64 + 128) (modes_of f (Clear l (record { inside = b; over = n })))
        ≡ modes_of f (Clear l (record { inside = false; over = cond b (n + 1) n }))
    closes true n e = omega (arith, format_below f, digit_lt l, frames_most f, leb-false (frames f) (n + 1) e)
    closes false n e = refl

-- the open frames, by any byte
clear_at : (n c d : ℕ) (f : Bool) (o : Frames) → n < 4 → clear_open (work_at n c d f o) ≡ (eqb (n / 2) 1 && o.inside)
unfolding work_at
clear_at zero c d f o h = refl
clear_at (suc zero) c d f o h = refl
clear_at (suc (suc zero)) c d f o h = refl
clear_at (suc (suc (suc zero))) c d f o h = refl
clear_at (suc (suc (suc (suc n)))) c d f o h = absurd (omega arith)

pub clear_open_lem : (m c d : ℕ) (f : Bool) → clear_open_in m ≡ clear_open (work_at (work_in m) c d f (frames_in m))
unfolding frames_in
clear_open_lem m c d f = clear_bits m ∙ rw (clear_at (work_in m) c d f (frames_in m) (omega arith)) refl

-- the last frame, by any byte: bit 7 counts only where it is in use
last_at : (k n c d : ℕ) (f : Bool) (o : Frames) → in_last k (work_at n c d f o) ≡ (clear_open (work_at n c d f o) && leb k (o.over + 1))
unfolding work_at
last_at k zero c d f o = refl
last_at k (suc zero) c d f o = refl
last_at k (suc (suc n)) c d f o = rw (ne_eqb (suc (suc n)) 0 (λ e. omega arith), ne_eqb (suc (suc n)) 1 (λ e. omega arith)) refl

last_over : (k v : ℕ) → 0 < k → leb k (v + 1) ≡ leb k (min v (k - 1) + 1)
last_over k v h = by (split (leb k (v + 1)))
  where
    by : (leb k (v + 1) ≡ true) ⊎ (leb k (v + 1) ≡ false) → leb k (v + 1) ≡ leb k (min v (k - 1) + 1)
    by (inl e) = e ∙ sym (le-leb k (min v (k - 1) + 1) (omega (arith, leb-true k (v + 1) e)))
    by (inr e) = e ∙ sym (lt-leb k (min v (k - 1) + 1) (omega (arith, leb-false k (v + 1) e)))

pub clear_last : (m c d : ℕ) (f : Bool) → (clear_open_in m && leb (frames (format_at (format_in m))) (m / 128 + 1))
    ≡ in_last (frames (format_at (format_in m))) (work_at (work_in m) c d f (frames_in m))
unfolding frames_in
clear_last m c d f =
    rw (last_at (frames (format_at (format_in m))) (work_in m) c d f (frames_in m), clear_open_lem m c d f, last_over (frames (format_at (format_in m))) (m / 128) (frames_some (format_at (format_in m)))) refl

-- what an open clear leaves lit
pub clear_lit : (n c d : ℕ) (f : Bool) (o : Frames) (b : Bool) → clear_open (work_at n c d f o) ≡ true → clear_lights (work_at n c d f o) b ≡ (f && b)
unfolding work_at
clear_lit zero c d f o b e = absurd (false≢true e)
clear_lit (suc zero) c d f o b e = absurd (false≢true e)
clear_lit (suc (suc n)) c d f o b e =
    rw (ne_eqb (suc (suc n)) 0 (λ e. omega arith), ne_eqb (suc (suc n)) 1 (λ e. omega arith)) refl
