-- The laws of dots that follow each other: those of one byte are that byte with its bits written.
-- Assumes nothing.
use mathlib.Core.Path.{◌≡◌, sym, ap, ◌∙◌}
use mathlib.Core.Bool.{Bool}
use mathlib.Core.List.{List}
use Prim.Native.Nat.{ℕ, zero, suc, ◌+◌, ◌*◌, ◌/◌, ◌%◌, ◌≤◌, ◌<◌}
use native.Mathlib.Nat.{add-suc}
use native.Mathlib.Omega.{arith}
use lib.ListN.{length, get_or, set, length-set}
use lib.Seq.{get_or-set_same, set-set, set-get_or}
use Rattle.picture.specs.Bit.{with_bit}
use Rattle.picture.specs.Working.Runs.{with_bits, up_from}
use Rattle.picture.specs.Dot.{set_dot, paint}

-- one dot of byte i, by its bit
set_bit : (b : Bool) (i k : ℕ) (pic : List ℕ) → k < 8 → set_dot b (8 * i + k) pic ≡ set pic i (with_bit b k (get_or pic i 0))
unfolding set_dot
set_bit b i k pic h =
    let byte : (8 * i + k) / 8 ≡ i = omega arith in
    let bit : (8 * i + k) % 8 ≡ k = omega arith in
    rw (byte, bit)

-- m dots of byte i from bit k on
paint_bits : (b : Bool) (i k m : ℕ) (pic : List ℕ) → i < length pic → k + m ≤ 8
    → paint b (up_from (8 * i + k) m) pic ≡ set pic i (with_bits b k m (get_or pic i 0))
paint_bits b i k zero pic h l = sym (set-get_or pic i 0)
paint_bits b i k (suc m) pic h l =
    let v = with_bit b k (get_or pic i 0) in
    let first = set_bit b i k pic (omega arith) in
    ap (paint b (up_from (suc (8 * i + k)) m)) first
    ∙ ap (λ (d : ℕ). paint b (up_from d m) (set pic i v)) (sym (add-suc (8 * i) k))
    ∙ paint_bits b i (suc k) m (set pic i v) (rw length-set h) (omega arith)
    ∙ rw (get_or-set_same pic i v 0 h, set-set)

-- m dots of one byte from dot d on
pub paint_byte : (b : Bool) (d m : ℕ) (pic : List ℕ) → d < 8 * length pic → d % 8 + m ≤ 8
    → set pic (d / 8) (with_bits b (d % 8) m (get_or pic (d / 8) 0)) ≡ paint b (up_from d m) pic
paint_byte b d m pic h l =
    let parts : 8 * (d / 8) + d % 8 ≡ d = omega arith in
    sym (paint_bits b (d / 8) (d % 8) m pic (omega arith) l) ∙ ap (λ (e : ℕ). paint b (up_from e m) pic) parts
