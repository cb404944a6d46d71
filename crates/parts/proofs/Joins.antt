-- The DAD lines as parts of reversed bytes, whatever the format.
-- Assumes nothing.
use mathlib.Core.Path.{◌≡◌, sym, ap, ap₂, ◌∙◌}
use mathlib.Core.Bool.{Bool}
use mathlib.Core.List.{List, [], ◌∷◌, ◌++◌}
use Prim.Native.Nat.{ℕ, zero, suc, ◌+◌, ◌*◌, ◌/◌, ◌%◌, ◌^◌, ◌<◌}
use native.Mathlib.Nat.{mul_assoc, pow-suc, pow-succ'}
use native.Mathlib.Omega.{arith}
use lib.Dec.{eqb}
use lib.ListN.{length, take, drop}
use lib.Pow.{field, mod-mod-pow}
use Rattle.picture.specs.Bit.{digit, bit_at}
use Rattle.picture.proofs.Laws.{digit_lt, bit_digit}
use Rattle.parts.specs.declared.format.Format.{Format}
use Rattle.parts.specs.declared.address.Wiring.{Wiring}
use Rattle.parts.specs.Address.{number, address_of}
use Rattle.parts.specs.Working.Bytes.{down, Wired}

-- cut to more than k bits, a number keeps bit k
low_bit : (n k v : ℕ) → bit_at k (v % 2 ^ (n + suc k)) ≡ bit_at k v
low_bit n zero v = ap (λ (m : ℕ). eqb m 1) (mod-mod-pow v n 1)
low_bit n (suc k) v =
    let more : n + suc (suc k) ≡ (n + suc k) + 1 = omega arith in
    rw more (ap (bit_at k) (field v (n + suc k) 1) ∙ low_bit n k (v / 2))

low_byte : (v : ℕ) → down (v % 256) ≡ down v
low_byte v = rw (low_bit 0 7 v, low_bit 1 6 v, low_bit 2 5 v, low_bit 3 4 v, low_bit 4 3 v, low_bit 5 2 v, low_bit 6 1 v, low_bit 7 0 v)

-- so six bits of one number and the lowest of another may be taken from a byte and from n + 1 bits
pub shown : (v w n : ℕ) → take 6 (down v) ++ (bit_at 0 w ∷ []) ≡ take 6 (down (v % 256)) ++ (bit_at 0 (w % 2 ^ (n + 1)) ∷ [])
shown v w n = ap₂ (λ (l : List Bool) (b : Bool). take 6 l ++ (b ∷ [])) (sym (low_byte v)) (sym (low_bit n 0 w))

-- lines side by side
number_lt : (l : List Bool) → number l < 2 ^ length l
number_lt [] = omega arith
number_lt (b ∷ l) = omega (arith, digit_lt b, number_lt l, pow-suc 2 (length l))

number_append : (l m : List Bool) → number (l ++ m) ≡ number l + 2 ^ length l * number m
number_append [] m = omega arith
number_append (b ∷ l) m = rw (pow-succ' 2 (length l), mul_assoc 2 (2 ^ length l) (number m)) (omega (arith, number_append l m))

-- the first six lines of a reversed byte and one more
six_and_one : (v : ℕ) (b : Bool) → number (down v) % 64 + digit b * 64 ≡ number (take 6 (down v) ++ (b ∷ []))
six_and_one v b =
    let six = take 6 (down v) in
    omega (arith, number_lt six, number_append six (drop 6 (down v)), number_append six (b ∷ []))

-- its last line
last_line : (v : ℕ) → number (down v) / 128 ≡ digit (bit_at 0 v)
last_line v =
    let seven = take 7 (down v) in
    omega (arith, number_lt seven, number_append seven (bit_at 0 v ∷ []))

-- the outputs, joined of two reversed bytes
pub joined : {f : Format} {x y : ℕ} {w : Wiring} → Wired f x y w
    → (across up : ℕ) → across ≡ number (down w.x) → up ≡ number (down w.y)
    → record { low = across % 64 + up / 128 * 64; high = up % 64 + w.dad6 * 64; msl = w.msl } ≡ address_of f x y
unfolding address_of
joined {w = w} wired across up a u =
    let bit : digit (bit_at 0 w.dad6) ≡ w.dad6 = omega (arith, bit_digit 0 w.dad6, wired.bit) in
    rw (
      a,
      u,
      last_line w.y,
      ← bit,
      six_and_one w.x (bit_at 0 w.y),
      six_and_one w.y (bit_at 0 w.dad6),
      wired.low,
      wired.high,
      wired.msl,
    )
