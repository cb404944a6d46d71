-- The laws of the offset along the shorter axis: its step by the error term, and that no whole offset is closer to the true line.
-- M is the larger length, m the smaller, i the dot.
-- Assumes nothing.
use mathlib.Core.Path.{◌≡◌, sym, ap, ◌∙◌}
use mathlib.Core.Logic.{⊎_elim}
use Prim.Native.Nat.{ℕ, zero, suc, ◌+◌, ◌-◌, ◌*◌, ◌/◌, ◌%◌, ◌<◌, ◌≤◌}
use native.Mathlib.Nat.{add-mul, mul-add, mul-sub, zero-mul, mul-le-mul_left, mul-le-mul_right, eq-zero-or-pos}
use native.Mathlib.Nat.{mod-lt, mod-add-mod, div-add-mod', mul-add-div_right, div-zero, div-eq_of_lt, div-eq_of_lt-le}
use native.Mathlib.Nat.{div-mul-le_self, le-div_iff_mul-le, lt-div-mul-add, div-lt_iff_lt-mul}
use native.Mathlib.Omega.{arith}
use lib.Arith.{digits_div, digits_mod}
use Rattle.motion.specs.Vector.{offset, dist}
use Rattle.motion.specs.Working.Strokes.{dividend, error_of}

-- a number below y + 1 times its divisor has it in it at most y times
pub quotient_most : (x k y : ℕ) → 0 < k → x < y * k + k → x / k ≤ y
quotient_most x k y h l =
    let below : x / k < y + 1 = (div-lt_iff_lt-mul {k = k} {x = x} {y = y + 1} h).1 (simp add-mul (omega arith)) in omega arith

-- a number from d to below 2 × d has d in it once
pub once : {t d : ℕ} → d ≤ t → t < d + d → (1 ≡ t / d) × (t - d ≡ t % d)
once {t} {d} h k =
    let e : t ≡ 1 * d + (t - d) = omega arith in
    (sym (ap (λ (n : ℕ). n / d) e ∙ digits_div 1 (omega arith)), sym (ap (λ (n : ℕ). n % d) e ∙ digits_mod 1 (omega arith)))

-- what the shorter axis steps by after dot i
abbrev pub carry : ℕ → ℕ → ℕ → ℕ
carry M m i = (error_of M m i + 2 * m) / (2 * M)

module _ (M m i : ℕ) where
  -- one dot further, what is divided is 2 × m more
  next_sum : dividend M m (i + 1) ≡ dividend M m i + 2 * m
  next_sum = simp (mul-add, add-mul) (omega arith)

  -- so is the error term, modulo 2 × M
  pub error_next : error_of M m (i + 1) ≡ (error_of M m i + 2 * m) % (2 * M)
  unfolding error_of
  error_next = ap (λ (n : ℕ). n % (2 * M)) next_sum ∙ sym (mod-add-mod (dividend M m i) (2 * M) (2 * m))

  -- and the offset steps by what that sum carries
  pub offset_next : 0 < M → offset M m (i + 1) ≡ offset M m i + carry M m i
  unfolding offset error_of
  offset_next h =
      let a = dividend M m i in
      let d = 2 * M in
      let e : a + 2 * m ≡ a / d * d + (a % d + 2 * m) = omega (arith, div-add-mod' a d) in
      ap (λ (n : ℕ). n / d) (next_sum ∙ e) ∙ mul-add-div_right (omega arith) (a / d) (a % d + 2 * m)

  -- the error term is below 2 × M
  pub error_lt : 0 < M → error_of M m i < 2 * M
  unfolding error_of
  error_lt h = mod-lt (dividend M m i) (omega arith)

  -- so the carry is none or one
  pub carry_most : 0 < M → m ≤ M → carry M m i ≤ 1
  carry_most h k = quotient_most (error_of M m i + 2 * m) (2 * M) 1 (omega arith) (omega (arith, error_lt h))

  -- dot i is within one half of the true line: 2 × |offset × M − i × m| is at most M
  pub near : i ≤ M → 2 * dist (offset M m i * M) (i * m) ≤ M
  unfolding dist offset
  near h =
      ⊎_elim
      (λ (z : M ≡ 0). let first : i ≡ 0 = omega arith in omega (arith, ap (λ (n : ℕ). offset M m i * n) z, ap (λ (n : ℕ). n * m) first))
      (λ (some : 0 < M). omega (arith, div-mul-le_self (dividend M m i) (2 * M), lt-div-mul-add {a = dividend M m i} {b = 2 * M} (omega arith)))
      (eq-zero-or-pos M)

-- within one half is closest: multiples of M lie M apart, so if one is at most M / 2 from t, each other is at least M / 2 from it
pub half_closest : (M a o t : ℕ) → 2 * dist (a * M) t ≤ M → dist (a * M) t ≤ dist (o * M) t
unfolding dist
half_closest M a o t h =
    ⊎_elim
    (λ (e : dist a o ≡ 0). let same : a ≡ o = omega arith in rw same (omega arith))
    (λ (apart : 0 < dist a o). omega (arith, simp (mul-add, mul-sub) at (mul-le-mul_left M apart)))
    (eq-zero-or-pos (dist a o))

-- no whole offset is closer to the true line than that of dot i
pub closest : (M m i o : ℕ) → i ≤ M → dist (offset M m i * M) (i * m) ≤ dist (o * M) (i * m)
closest M m i o h = half_closest M (offset M m i) o (i * m) (near M m i h)

-- dot 0 has no offset
pub offset_start : (M m : ℕ) → offset M m 0 ≡ 0
unfolding offset
offset_start zero m = rw zero-mul
offset_start (suc M) m = rw zero-mul (div-eq_of_lt (omega arith))

-- the last dot has all of m
pub offset_end : (M m : ℕ) → m ≤ M → offset M m M ≡ m
unfolding offset
offset_end zero m h = omega (arith, div-zero (dividend 0 m 0))
offset_end (suc M) m h = div-eq_of_lt-le (2 * suc M) (omega arith) (omega arith)

-- no dot has more
pub offset_most : (M m i : ℕ) → i ≤ M → offset M m i ≤ m
unfolding offset
offset_most zero m i h = omega (arith, div-zero (dividend 0 m i))
offset_most (suc M) m i h = quotient_most (dividend (suc M) m i) (2 * suc M) m (omega arith) (omega (arith, mul-le-mul_right m h))

-- a later dot has no less
pub offset_grows : (M m i j : ℕ) → i ≤ j → offset M m i ≤ offset M m j
unfolding offset
offset_grows zero m i j h = omega (arith, div-zero (dividend 0 m i))
offset_grows (suc M) m i j h =
    let less = div-mul-le_self (dividend (suc M) m i) (2 * suc M) in
    (le-div_iff_mul-le {k = 2 * suc M} {x = offset (suc M) m i} {y = dividend (suc M) m j} (omega arith)).1
    (omega (arith, less, mul-le-mul_right m h))
