-- The file of a picture: its head, its signs, its lines, the top one first. 48 and 49 are the signs 0 and 1, 10 is the line feed.
-- Assumes nothing.
use Rattle.std.specs.Prelude.{ℕ, ◌+◌, ◌-◌, ◌*◌, ◌/◌, ◌%◌, ◌^◌, true, false, List, [], ◌∷◌, ◌++◌, length, replicate, take, drop}
use Rattle.basis.specs.Reading.{Reading, each, joined}
use Rattle.pbm.specs.File.{blank, head, sign, signs, file_lines, body, file}

-- P1, then width and height parted by one space, each line ended by a line feed
unfoldable pub head_readings : List Reading
head_readings =
    -- 512 256, 512 512, 256 256: the EF9366, FMAT high and FMAT low
    (head 512 256, 80 ∷ 49 ∷ 10 ∷ 53 ∷ 49 ∷ 50 ∷ 32 ∷ 50 ∷ 53 ∷ 54 ∷ 10 ∷ [])
    ∷ (head 512 512, 80 ∷ 49 ∷ 10 ∷ 53 ∷ 49 ∷ 50 ∷ 32 ∷ 53 ∷ 49 ∷ 50 ∷ 10 ∷ [])
    ∷ (head 256 256, 80 ∷ 49 ∷ 10 ∷ 50 ∷ 53 ∷ 54 ∷ 32 ∷ 50 ∷ 53 ∷ 54 ∷ 10 ∷ [])
    -- 64 2, 1024 512, 0 10: no leading zeros
    ∷ (head 64 2, 80 ∷ 49 ∷ 10 ∷ 54 ∷ 52 ∷ 32 ∷ 50 ∷ 10 ∷ [])
    ∷ (head 1024 512, 80 ∷ 49 ∷ 10 ∷ 49 ∷ 48 ∷ 50 ∷ 52 ∷ 32 ∷ 53 ∷ 49 ∷ 50 ∷ 10 ∷ [])
    ∷ (head 0 10, 80 ∷ 49 ∷ 10 ∷ 48 ∷ 32 ∷ 49 ∷ 48 ∷ 10 ∷ [])
    ∷ (blank ∷ [], 32 ∷ [])
    ∷ []

-- lit as 1, dark as 0, without spaces
unfoldable pub sign_readings : List Reading
sign_readings =
    (sign true ∷ sign false ∷ [], 49 ∷ 48 ∷ [])
    -- a byte's lowest bit is its first dot: each bit alone, every byte
    ∷ (
      joined (λ (i : ℕ). signs ((2 ^ i) ∷ []) 0 8) 0 8,
      joined (λ (i : ℕ). replicate i 48 ++ (49 ∷ replicate (7 - i) 48)) 0 8,
    )
    ∷ (joined (λ (v : ℕ). signs (v ∷ []) 0 8) 0 256, joined (λ (v : ℕ). each (λ (k : ℕ). 48 + v / 2 ^ k % 2) 0 8) 0 256)
    ∷ (signs (0x0B ∷ 0x80 ∷ []) 0 16, 49 ∷ 49 ∷ 48 ∷ 49 ∷ 48 ∷ 48 ∷ 48 ∷ 48 ∷ 48 ∷ 48 ∷ 48 ∷ 48 ∷ 48 ∷ 48 ∷ 48 ∷ 49 ∷ [])
    -- from dot d on, n of them: none before d, none behind
    ∷ (signs (0x81 ∷ 0 ∷ 2 ∷ []) 7 11, 49 ∷ 48 ∷ 48 ∷ 48 ∷ 48 ∷ 48 ∷ 48 ∷ 48 ∷ 48 ∷ 48 ∷ 49 ∷ [])
    ∷ (signs (0x81 ∷ 0 ∷ 2 ∷ []) 8 9 ++ signs (255 ∷ []) 3 0, 48 ∷ 48 ∷ 48 ∷ 48 ∷ 48 ∷ 48 ∷ 48 ∷ 48 ∷ 48 ∷ [])
    ∷ (joined (λ (n : ℕ). signs (0xAA ∷ []) 1 n) 0 5, 49 ∷ 49 ∷ 48 ∷ 49 ∷ 48 ∷ 49 ∷ 49 ∷ 48 ∷ 49 ∷ 48 ∷ [])
    -- past the picture's end it is dark
    ∷ (signs (255 ∷ []) 6 4, 49 ∷ 49 ∷ 48 ∷ 48 ∷ [])
    ∷ []

-- some bytes, each its own: k from v on
unfoldable pub own : ℕ → ℕ → List ℕ
own v k = each (λ (n : ℕ). n) v k

-- the file's line of eight bytes from v on
unfoldable pub eight : ℕ → List ℕ
eight v = joined (λ (n : ℕ). each (λ (k : ℕ). 48 + n / 2 ^ k % 2) 0 8) v 8 ++ (10 ∷ [])

-- sixty-four dots to a line, each line ended by a line feed
unfoldable pub line_readings : List Reading
line_readings =
    (file_lines (replicate 8 0x0F) 0 1, joined (λ (k : ℕ). 49 ∷ 49 ∷ 49 ∷ 49 ∷ 48 ∷ 48 ∷ 48 ∷ 48 ∷ []) 0 8 ++ (10 ∷ []))
    ∷ (file_lines (replicate 7 0 ++ (0x80 ∷ [])) 0 1, replicate 63 48 ++ 49 ∷ 10 ∷ [])
    ∷ (file_lines (own 1 8) 0 1, eight 1)
    ∷ (file_lines (own 1 24) 0 3, eight 1 ++ (eight 9 ++ eight 17))
    ∷ (file_lines (own 1 24) 64 2, eight 9 ++ eight 17)
    ∷ (file_lines (own 1 24) 128 1, eight 17)
    ∷ (file_lines (own 1 24) 64 0, [])
    -- eight lines for 512 dots: 520 bytes
    ∷ (file_lines (own 100 64) 0 8, joined (λ (k : ℕ). eight (100 + 8 * k)) 0 8)
    ∷ (length (file_lines [] 0 8) ∷ length (file_lines [] 0 4) ∷ [], 520 ∷ 260 ∷ [])
    ∷ []

-- the lowest h lines, the top one first
unfoldable pub body_readings : List Reading
body_readings = (
  body 64 3 (replicate 8 0 ++ (replicate 8 255 ++ replicate 8 1)),
  joined (λ (k : ℕ). 49 ∷ 48 ∷ 48 ∷ 48 ∷ 48 ∷ 48 ∷ 48 ∷ 48 ∷ []) 0 8 ++ (10 ∷ (replicate 64 49 ++ (10 ∷ (replicate 64 48
      ++ (10 ∷ []))))),
)
    ∷ (body 64 3 (own 1 24), eight 17 ++ (eight 9 ++ eight 1))
    ∷ (body 64 1 (own 1 24) ++ body 64 0 (own 1 24), eight 1)
    -- of 128 dots a line, two lines of the file for each
    ∷ (body 128 2 (own 1 32), eight 17 ++ (eight 25 ++ (eight 1 ++ eight 9)))
    ∷ (body 128 3 (own 1 48), eight 33 ++ (eight 41 ++ (eight 17 ++ (eight 25 ++ (eight 1 ++ eight 9)))))
    -- of 256, and of 512
    ∷ (body 256 2 (own 1 64), joined (λ (k : ℕ). eight (33 + 8 * k)) 0 4 ++ joined (λ (k : ℕ). eight (1 + 8 * k)) 0 4)
    ∷ (body 512 2 (own 0 128), joined (λ (k : ℕ). eight (64 + 8 * k)) 0 8 ++ joined (λ (k : ℕ). eight (8 * k)) 0 8)
    -- 256 lines of 64: the first, those about the middle, the last
    ∷ (
      take 65 (body 64 256 (joined (λ (y : ℕ). replicate 8 y) 0 256)),
      replicate 64 49 ++ (10 ∷ []),
    )
    ∷ (
      take 130 (drop (65 * 127) (body 64 256 (joined (λ (y : ℕ). replicate 8 y) 0 256))),
      joined (λ (k : ℕ). 48 ∷ 48 ∷ 48 ∷ 48 ∷ 48 ∷ 48 ∷ 48 ∷ 49 ∷ []) 0 8 ++ (10 ∷ (joined (λ (k : ℕ). 49 ∷ 49 ∷ 49 ∷ 49 ∷ 49 ∷ 49 ∷ 49 ∷ 48 ∷ []) 0 8
          ++ (10 ∷ []))),
    )
    ∷ (
      drop (65 * 254) (body 64 256 (joined (λ (y : ℕ). replicate 8 y) 0 256)),
      joined (λ (k : ℕ). 49 ∷ 48 ∷ 48 ∷ 48 ∷ 48 ∷ 48 ∷ 48 ∷ 48 ∷ []) 0 8 ++ (10 ∷ (replicate 64 48 ++ (10 ∷ []))),
    )
    ∷ []

-- whole files
unfoldable pub file_readings : List Reading
file_readings =
    (file 64 1 (replicate 8 255), 80 ∷ 49 ∷ 10 ∷ 54 ∷ 52 ∷ 32 ∷ 49 ∷ 10 ∷ [] ++ (replicate 64 49 ++ (10 ∷ [])))
    ∷ (file 64 2 (own 1 16), 80 ∷ 49 ∷ 10 ∷ 54 ∷ 52 ∷ 32 ∷ 50 ∷ 10 ∷ [] ++ (eight 9 ++ eight 1))
    ∷ (file 128 2 (own 1 32), 80 ∷ 49 ∷ 10 ∷ 49 ∷ 50 ∷ 56 ∷ 32 ∷ 50 ∷ 10 ∷ [] ++ (eight 17 ++ (eight 25 ++ (eight 1 ++ eight 9))))
    ∷ (file 64 0 [], 80 ∷ 49 ∷ 10 ∷ 54 ∷ 52 ∷ 32 ∷ 48 ∷ 10 ∷ [])
    -- the last byte is a line feed
    ∷ (drop 72 (file 64 1 (replicate 8 0)), 10 ∷ [])
    ∷ []
