-- The exchange of halves, pairs and neighbours reverses a byte.
-- Assumes nothing.
use mathlib.Core.Path.{◌≡◌}
use Prim.Native.Nat.{ℕ, ◌*◌, ◌/◌, ◌%◌, ◌<◌}
use lib.Bits.{bit_and, bit_or}
use lib.Dec.{eqb, eqb→eq}
use Rattle.basis.proofs.Table.{passes}
use Rattle.parts.specs.Address.{number}
use Rattle.parts.specs.Working.Bytes.{down}

-- the exchanges, as the code has them
abbrev halves : ℕ → ℕ
halves b = bit_or (b / 16) (b * 16 % 256)

abbrev pairs : ℕ → ℕ
pairs b = bit_or (bit_and (b / 4) 0x33) (bit_and b 0x33 * 4 % 256)

abbrev neighbours : ℕ → ℕ
neighbours b = bit_or (bit_and (b / 2) 0x55) (bit_and b 0x55 * 2 % 256)

abbrev exchanged : ℕ → ℕ
exchanged b = neighbours (pairs (halves b))

-- so it is for each of the 256, by a test that antt computes
pub reverses : (b : ℕ) → b < 256 → exchanged b ≡ number (down b)
reverses b h = eqb→eq (exchanged b) (number (down b)) (passes (λ b. eqb (exchanged b) (number (down b))) 256 tt b h)
