-- A bit written by a mask, and some bits that follow each other by one.
-- Assumes nothing.
use mathlib.Core.Path.{◌≡◌, sym, ap, ◌∙◌}
use mathlib.Core.Bool.{Bool, true, false}
use Prim.Native.Nat.{ℕ, zero, suc, ◌+◌, ◌-◌, ◌*◌, ◌/◌, ◌%◌, ◌^◌, ◌<◌, ◌≤◌}
use native.Mathlib.Nat.{pow-suc, le_of_suc-le-suc, not-suc-le-zero, max-eq_right, max-zero, min-zero, min-eq_left, mod-eq_of_lt, one-mul, mul-one, mul_assoc, sub-zero, lt_of_lt_of_le}
use native.Mathlib.Omega.{arith}
use lib.Bits.{bit_and, bit_or, or_step, and_step, or_zero_r, and_mask, shifted_half, shifted_even}
use lib.Pow.{pow-lt, pow_pos, pow_mono, ones_lt, ones_split, high, shl_lt, shl_exact}
use Rattle.picture.specs.Bit.{with_bit}
use Rattle.picture.specs.Working.Runs.{with_bits}
use Rattle.picture.proofs.Bits.{half_join, odd_join}

power_half : (k : ℕ) → 2 ^ suc k / 2 ≡ 2 ^ k
power_half k = omega (arith, pow-suc 2 k)

power_even : (k : ℕ) → 2 ^ suc k % 2 ≡ 0
power_even k = omega (arith, pow-suc 2 k)

pub or_bit : (k v : ℕ) → bit_or v (2 ^ k) ≡ with_bit true k v
or_bit zero v = or_step v 1 ∙ rw (or_zero_r (v / 2), max-eq_right {n = v % 2} {m = 1} (omega arith))
or_bit (suc k) v = or_step v (2 ^ suc k) ∙ rw (power_half k, power_even k, max-zero (v % 2), or_bit k (v / 2))

pub and_bit : (n k v : ℕ) → k < n → v < 2 ^ n → bit_and v ((2 ^ n - 1) - 2 ^ k) ≡ with_bit false k v
and_bit zero k v hk hv = absurd (not-suc-le-zero hk)
and_bit (suc n) zero v hk hv =
    let half : ((2 ^ suc n - 1) - 1) / 2 ≡ 2 ^ n - 1 = omega (arith, pow-suc 2 n, pow_pos n) in
    let even : ((2 ^ suc n - 1) - 1) % 2 ≡ 0 = omega (arith, pow-suc 2 n, pow_pos n) in
    and_step v ((2 ^ suc n - 1) - 1)
    ∙ rw (half, even, min-zero (v % 2), and_mask (v / 2) n, mod-eq_of_lt {n = v / 2} {m = 2 ^ n} (omega (arith, pow-suc 2 n)))
and_bit (suc n) (suc k) v hk hv =
    let l : k < n = le_of_suc-le-suc hk in
    let half : ((2 ^ suc n - 1) - 2 ^ suc k) / 2 ≡ (2 ^ n - 1) - 2 ^ k =
    omega (arith, pow-suc 2 n, pow-suc 2 k, pow-lt l) in
    let odd : ((2 ^ suc n - 1) - 2 ^ suc k) % 2 ≡ 1 = omega (arith, pow-suc 2 n, pow-suc 2 k, pow-lt l) in
    and_step v ((2 ^ suc n - 1) - 2 ^ suc k)
    ∙ rw (half, odd, min-eq_left {n = v % 2} {m = 1} (omega arith), and_bit n k (v / 2) l (omega (arith, pow-suc 2 n)))

-- the mask of a byte as the code makes it, 1 << k
pub mask : (k : ℕ) → k < 8 → 1 * 2 ^ k % 256 ≡ 2 ^ k
mask k h = rw one-mul (mod-eq_of_lt (pow-lt h))

-- bits above the lowest are those of the half
bits_half : (b : Bool) (k m v : ℕ) → with_bits b (suc k) m v ≡ with_bits b k m (v / 2) * 2 + v % 2
bits_half b k zero v = omega arith
bits_half b k (suc m) v =
    bits_half b (suc k) m (with_bit b (suc k) v)
    ∙ rw (half_join (with_bit b k (v / 2)) (v % 2) (omega arith), odd_join (with_bit b k (v / 2)) (v % 2) (omega arith))

-- `|` with the mask of m bits from bit k on makes them 1
pub or_bits : (k m v : ℕ) → bit_or v ((2 ^ m - 1) * 2 ^ k) ≡ with_bits true k m v
or_bits zero zero v = or_zero_r v
or_bits zero (suc m) v =
    let half : (2 ^ suc m - 1) * 1 / 2 ≡ (2 ^ m - 1) * 1 = omega (arith, pow-suc 2 m, pow_pos m) in
    let odd : (2 ^ suc m - 1) * 1 % 2 ≡ 1 = omega (arith, pow-suc 2 m, pow_pos m) in
    or_step v ((2 ^ suc m - 1) * 1)
    ∙ rw (half, odd, max-eq_right {n = v % 2} {m = 1} (omega arith), or_bits zero m (v / 2))
    (rw (bits_half true 0 m (v / 2 * 2 + 1), half_join (v / 2) 1 (omega arith), odd_join (v / 2) 1 (omega arith)))
or_bits (suc k) m v =
    let a = 2 ^ m - 1 in
    or_step v (a * 2 ^ suc k)
    ∙ rw (shifted_half a k, shifted_even a k, max-zero (v % 2), or_bits k m (v / 2), bits_half true k m v)

-- what is left of n ones without m ones below, and without some above the lowest, by halves
ones_less : (a b : ℕ) → 0 < b → b ≤ a → (((a * 2 - 1) - (b * 2 - 1)) / 2 ≡ (a - 1) - (b - 1)) × (((a * 2 - 1) - (b * 2 - 1)) % 2 ≡ 0)
ones_less a b p h = (omega arith, omega arith)

ones_above : (a b c : ℕ) → b < a → c ≡ b * 2 → (((a * 2 - 1) - c) / 2 ≡ (a - 1) - b) × (((a * 2 - 1) - c) % 2 ≡ 1)
ones_above a b c h e = (omega arith, omega arith)

twice : (a k : ℕ) → a * 2 ^ suc k ≡ a * 2 ^ k * 2
twice a k = rw (pow-suc 2 k, mul_assoc)

-- `&` with its complement makes them 0
pub and_bits : (n k m v : ℕ) → k + m ≤ n → v < 2 ^ n → bit_and v ((2 ^ n - 1) - (2 ^ m - 1) * 2 ^ k) ≡ with_bits false k m v
and_bits n zero zero v h hv = rw sub-zero (and_mask v n ∙ mod-eq_of_lt hv)
and_bits zero zero (suc m) v h hv = absurd (not-suc-le-zero {n = m} (omega arith))
and_bits (suc n) zero (suc m) v h hv =
    let parts = ones_less (2 ^ n) (2 ^ m) (pow_pos m) (pow_mono (omega arith)) in
    and_step v ((2 ^ suc n - 1) - (2 ^ suc m - 1) * 1)
    ∙ rw (mul-one, pow-suc 2 n, pow-suc 2 m, parts.0, parts.1, min-zero (v % 2))
    (rw (rw (mul-one (2 ^ m - 1)) at (and_bits n zero m (v / 2) (omega arith) (omega (arith, pow-suc 2 n))))
    (rw (bits_half false 0 m (v / 2 * 2 + 0), half_join (v / 2) 0 (omega arith), odd_join (v / 2) 0 (omega arith))))
and_bits zero (suc k) m v h hv = absurd (not-suc-le-zero {n = k + m} (omega arith))
and_bits (suc n) (suc k) m v h hv =
    let a = 2 ^ m - 1 in
    let l : a * 2 ^ k < 2 ^ n = lt_of_lt_of_le (shl_lt m k (ones_lt m)) (pow_mono (omega arith)) in
    let parts = ones_above (2 ^ n) (a * 2 ^ k) (a * 2 ^ suc k) l (twice a k) in
    and_step v ((2 ^ suc n - 1) - a * 2 ^ suc k)
    ∙ rw (pow-suc 2 n, parts.0, parts.1, min-eq_left {n = v % 2} {m = 1} (omega arith))
    (rw (and_bits n k m (v / 2) (omega arith) (omega (arith, pow-suc 2 n)), bits_half false k m v))

-- the mask as the code makes it, 255 >> (8 - m) << k
pub mask_bits : (k m : ℕ) → k + m ≤ 8 → 255 / 2 ^ (8 - m) * 2 ^ k % 256 ≡ (2 ^ m - 1) * 2 ^ k
mask_bits k m h =
    let j = 8 - m in
    let all : m + j ≡ 8 = omega arith in
    let ones : 255 / 2 ^ j ≡ 2 ^ m - 1 =
    ap (λ (n : ℕ). (2 ^ n - 1) / 2 ^ j) (sym all) ∙ ap (λ (n : ℕ). n / 2 ^ j) (ones_split m j) ∙ high (2 ^ m - 1) j (ones_lt j) in
    rw ones (shl_exact m k 8 (ones_lt m) (omega arith))
