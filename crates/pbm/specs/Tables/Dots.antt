-- The dots of a file: its signs, the bytes that they make, the picture. 48 and 49 are the signs 0 and 1.
-- Assumes nothing.
use Rattle.std.specs.Prelude.{ℕ, ◌+◌, ◌-◌, ◌/◌, ◌%◌, ◌^◌, List, [], ◌∷◌, ◌++◌, replicate}
use Rattle.basis.specs.Reading.{Reading, each, joined, told}
use Rattle.pbm.specs.File.{body, file}
use Rattle.pbm.specs.Contents.{from_dots, taken, are_dots, weighed, packed, shown}
use Rattle.pbm.specs.Tables.Texts.{by_white}

-- Signs ---------------------------------------------------------------------------------------------------------------

unfoldable pub dot_readings : List Reading
dot_readings =
    -- the next n signs: side by side, parted by white space or comments, each differently
    (taken 0 (48 ∷ 49 ∷ []) ++ taken 1 (48 ∷ 49 ∷ []), 48 ∷ [])
    ∷ (taken 4 (48 ∷ 49 ∷ 49 ∷ 48 ∷ []), 48 ∷ 49 ∷ 49 ∷ 48 ∷ [])
    ∷ (taken 4 (10 ∷ 48 ∷ 32 ∷ 49 ∷ 9 ∷ 9 ∷ 49 ∷ 13 ∷ 10 ∷ 48 ∷ 10 ∷ []), 48 ∷ 49 ∷ 49 ∷ 48 ∷ [])
    ∷ (
      taken 4 (35 ∷ 97 ∷ 10 ∷ 48 ∷ 35 ∷ 49 ∷ 10 ∷ 32 ∷ 49 ∷ 35 ∷ 32 ∷ 48 ∷ 32 ∷ 48 ∷ 13 ∷ 10 ∷ 35 ∷ 10 ∷ 49 ∷ 48 ∷ []),
      48 ∷ 49 ∷ 49 ∷ 48 ∷ [],
    )
    -- what follows the last is not looked at
    ∷ (taken 2 (48 ∷ 49 ∷ 120 ∷ []) ++ taken 2 (48 ∷ 49 ∷ 35 ∷ []), 48 ∷ 49 ∷ 48 ∷ 49 ∷ [])
    ∷ (taken 3 (48 ∷ 49 ∷ 120 ∷ []) ++ taken 3 (48 ∷ 120 ∷ 49 ∷ []), 48 ∷ 49 ∷ 120 ∷ 48 ∷ 120 ∷ 49 ∷ [])
    -- each byte between two dots: white space is passed, # ends the file, any other byte is a sign
    ∷ (
      joined (λ (b : ℕ). taken 3 (48 ∷ b ∷ 49 ∷ 49 ∷ [])) 0 256,
      by_white (48 ∷ 49 ∷ 49 ∷ []) (48 ∷ 0 ∷ 0 ∷ []) (λ (b : ℕ). 48 ∷ b ∷ 49 ∷ []),
    )
    -- past the end each is 0: nothing left, white space left, a comment left
    ∷ (
      taken 3 [] ++ (taken 3 (48 ∷ []) ++ (taken 2 (49 ∷ 32 ∷ 10 ∷ []) ++ taken 2 (49 ∷ 35 ∷ 48 ∷ []))),
      0 ∷ 0 ∷ 0 ∷ 48 ∷ 0 ∷ 0 ∷ 49 ∷ 0 ∷ 49 ∷ 0 ∷ [],
    )
    ∷ (taken 300 (joined (λ (k : ℕ). 48 ∷ 49 ∷ 32 ∷ 10 ∷ []) 0 150), joined (λ (k : ℕ). 48 ∷ 49 ∷ []) 0 150)
    -- dots: 0 and 1, each sign of them; none is fine
    ∷ (each (λ (b : ℕ). told (are_dots (b ∷ []))) 0 256, replicate 48 0 ++ (1 ∷ 1 ∷ replicate 206 0))
    ∷ (each (λ (b : ℕ). told (are_dots (48 ∷ b ∷ 49 ∷ []))) 0 256, replicate 48 0 ++ (1 ∷ 1 ∷ replicate 206 0))
    ∷ (each (λ (b : ℕ). told (are_dots (49 ∷ 48 ∷ b ∷ []))) 0 256, replicate 48 0 ++ (1 ∷ 1 ∷ replicate 206 0))
    ∷ (
      told (are_dots []) ∷ told (are_dots (replicate 300 49)) ∷ told (are_dots (replicate 300 49 ++ (50 ∷ []))) ∷ [],
      1 ∷ 1 ∷ 0 ∷ [],
    )
    -- of 65,536 the very last is bad
    ∷ (told (are_dots (replicate 65535 48 ++ 50 ∷ [])) ∷ [], 0 ∷ [])
    ∷ []

-- Pictures ------------------------------------------------------------------------------------------------------------

-- eight signs of a byte, its lowest bit first
unfoldable pub eight_of : ℕ → List ℕ
eight_of v = each (λ (k : ℕ). 48 + v / 2 ^ k % 2) 0 8

unfoldable pub shown_readings : List Reading
shown_readings =
    -- the first of eight signs is the lowest bit: each alone, three, every byte
    (each (λ (i : ℕ). weighed 8 (replicate i 48 ++ (49 ∷ replicate (7 - i) 48))) 0 8, 1 ∷ 2 ∷ 4 ∷ 8 ∷ 16 ∷ 32 ∷ 64 ∷ 128 ∷ [])
    ∷ (
      weighed 8 (49 ∷ 49 ∷ 48 ∷ 49 ∷ 48 ∷ 48 ∷ 48 ∷ 48 ∷ []) ∷ weighed 8 (48 ∷ 48 ∷ 48 ∷ 48 ∷ 48 ∷ 48 ∷ 49 ∷ 49 ∷ []) ∷ weighed 8 (49
          ∷ 49 ∷ 49 ∷ 49 ∷ 49 ∷ 49 ∷ 49 ∷ 49 ∷ []) ∷ weighed 8 (48 ∷ 48 ∷ 48 ∷ 48 ∷ 48 ∷ 48 ∷ 48 ∷ 48 ∷ []) ∷ [],
      0x0B ∷ 0xC0 ∷ 255 ∷ 0 ∷ [],
    )
    ∷ (each (λ (v : ℕ). weighed 8 (eight_of v)) 0 256, each (λ (v : ℕ). v) 0 256)
    -- k of them; the rest is not looked at; a list that ends early is 0 there, and so is any sign but 1
    ∷ (
      each (λ (k : ℕ). weighed k (49 ∷ 49 ∷ 49 ∷ 49 ∷ 49 ∷ 49 ∷ 49 ∷ 49 ∷ 49 ∷ 49 ∷ [])) 0 9,
      0 ∷ 1 ∷ 3 ∷ 7 ∷ 15 ∷ 31 ∷ 63 ∷ 127 ∷ 255 ∷ [],
    )
    ∷ (
      weighed 8 (49 ∷ 48 ∷ 49 ∷ []) ∷ weighed 8 [] ∷ weighed 8 (49 ∷ 120 ∷ 50 ∷ 47 ∷ 48 ∷ 49 ∷ 49 ∷ 49 ∷ []) ∷ [],
      5 ∷ 0 ∷ 0xE1 ∷ [],
    )
    -- n bytes of eight signs each
    ∷ (
      packed 2 (49 ∷ 48 ∷ 48 ∷ 48 ∷ 48 ∷ 48 ∷ 48 ∷ 48 ∷ 48 ∷ 48 ∷ 48 ∷ 48 ∷ 48 ∷ 48 ∷ 48 ∷ 49 ∷ []) ++ (packed 1 (48 ∷ 49 ∷ 48 ∷ 48 ∷ 48 ∷ 48 ∷ 48 ∷ 48 ∷ 49 ∷ 49 ∷ 49 ∷ 49 ∷ 49 ∷ 49 ∷ 49 ∷ 49 ∷ [])
          ++ packed 0 (49 ∷ 49 ∷ 49 ∷ 49 ∷ 49 ∷ 49 ∷ 49 ∷ 49 ∷ [])),
      1 ∷ 128 ∷ 2 ∷ [],
    )
    ∷ (packed 256 (joined eight_of 0 256), each (λ (v : ℕ). v) 0 256)
    ∷ (packed 3 (49 ∷ 49 ∷ 49 ∷ 49 ∷ 49 ∷ 49 ∷ 49 ∷ 49 ∷ []), 255 ∷ 0 ∷ 0 ∷ [])
    -- the first line of the file is the picture's last: lines of 8, of 16, of 64, of 128 dots
    ∷ (
      shown 8 3 (49 ∷ 49 ∷ 48 ∷ 48 ∷ 48 ∷ 48 ∷ 48 ∷ 48 ∷ 49 ∷ 49 ∷ 49 ∷ 49 ∷ 48 ∷ 48 ∷ 48 ∷ 48 ∷ 48 ∷ 48 ∷ 48 ∷ 48 ∷ 48 ∷ 48 ∷ 48 ∷ 49
          ∷ []),
      0x80 ∷ 0x0F ∷ 0x03 ∷ [],
    )
    ∷ (shown 16 2 (joined eight_of 1 4), 3 ∷ 4 ∷ 1 ∷ 2 ∷ [])
    ∷ (shown 64 3 (joined eight_of 1 24), each (λ (v : ℕ). v) 17 8 ++ (each (λ (v : ℕ). v) 9 8 ++ each (λ (v : ℕ). v) 1 8))
    ∷ (shown 128 2 (joined eight_of 1 32), each (λ (v : ℕ). v) 17 16 ++ each (λ (v : ℕ). v) 1 16)
    ∷ (shown 512 2 (joined eight_of 0 128), each (λ (v : ℕ). v) 64 64 ++ each (λ (v : ℕ). v) 0 64)
    ∷ (
      shown 8 1 (48 ∷ 49 ∷ 49 ∷ 49 ∷ 49 ∷ 49 ∷ 49 ∷ 49 ∷ []) ++ shown 8 0 (49 ∷ 49 ∷ 49 ∷ 49 ∷ 49 ∷ 49 ∷ 49 ∷ 49 ∷ []),
      0xFE ∷ [],
    )
    -- reading what was written: 64 dots by 3 lines, 128 by 2
    ∷ (shown 64 3 (taken 192 (body 64 3 (each (λ (v : ℕ). v) 1 24))), each (λ (v : ℕ). v) 1 24)
    ∷ (shown 128 2 (taken 256 (from_dots (file 128 2 (each (λ (v : ℕ). v) 100 32)))), each (λ (v : ℕ). v) 100 32)
    ∷ []
