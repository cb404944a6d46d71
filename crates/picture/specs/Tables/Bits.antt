-- Readings of the bits of a number, over all 256 bytes.
-- Assumes nothing.
use Rattle.std.specs.Prelude.{ℕ, ◌+◌, ◌-◌, ◌*◌, ◌^◌, true, false, List, [], ◌∷◌, ◌++◌, replicate}
use Rattle.basis.specs.Reading.{Reading, each, joined, told}
use Rattle.picture.specs.Bit.{digit, bit_at, with_bit}

-- some numbers n times over; n numbers from i on
unfoldable pub again : ℕ → List ℕ → List ℕ
again n xs = joined (λ k. xs) 0 n

unfoldable pub from : ℕ → ℕ → List ℕ
from i n = each (λ k. k) i n

-- bit k of the numbers from 0 to 255: 2^k times low, 2^k times high, and so on; n is 2^k, and there are m such pairs
unfoldable pub bit_row : ℕ → ℕ → ℕ → Reading
bit_row k n m = (each (λ v. told (bit_at k v)) 0 256, again m (replicate n 0 ++ replicate n 1))

-- with bit k low: each 2^k numbers that have it low, twice over; with bit k high likewise
unfoldable pub low_row : ℕ → ℕ → ℕ → Reading
low_row k n m = (each (with_bit false k) 0 256, joined (λ j. from (2 * n * j) n ++ from (2 * n * j) n) 0 m)

unfoldable pub high_row : ℕ → ℕ → ℕ → Reading
high_row k n m = (each (with_bit true k) 0 256, joined (λ j. from (2 * n * j + n) n ++ from (2 * n * j + n) n) 0 m)

-- all of it for one bit
unfoldable pub bit_rows : ℕ → ℕ → ℕ → List Reading
bit_rows k n m = bit_row k n m ∷ low_row k n m ∷ high_row k n m ∷ []

unfoldable pub bits : List Reading
bits =
    bit_rows 0 1 128
    ++ bit_rows 1 2 64
    ++ bit_rows 2 4 32
    ++ bit_rows 3 8 16
    ++ bit_rows 4 16 8
    ++ bit_rows 5 32 4
    ++ bit_rows 6 64 2
    ++ bit_rows 7 128 1
    ++ (
    (digit true ∷ digit false ∷ [], 1 ∷ 0 ∷ [])
    -- of sixteen bits, bit k has the weight 2^k: that weight alone, and all but it
    ∷ (
      joined (λ k. each (λ j. told (bit_at k (2 ^ j))) 0 16) 0 16,
      joined (λ k. replicate k 0 ++ (1 ∷ replicate (15 - k) 0)) 0 16,
    )
    ∷ (
      joined (λ k. each (λ j. told (bit_at k (65535 - 2 ^ j))) 0 16) 0 16,
      joined (λ k. replicate k 1 ++ (0 ∷ replicate (15 - k) 1)) 0 16,
    )
    ∷ (each (λ k. with_bit true k 0) 0 16, each (λ k. 2 ^ k) 0 16)
    ∷ (each (λ k. with_bit false k 65535) 0 16, each (λ k. 65535 - 2 ^ k) 0 16)
    ∷ []
    )
