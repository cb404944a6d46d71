-- A file with other white space: gaps, zeros before a number, a gap before each dot. 9 is the tab, 10 LF, 13 CR, 32 the blank,
-- 35 #, 48 and 49 are 0 and 1.
-- Assumes nothing.
use Rattle.std.specs.Prelude.{ℕ, ◌+◌, ◌/◌, ◌%◌, ◌^◌, true, false, List, [], ◌∷◌, ◌++◌, replicate}
use Rattle.basis.specs.Reading.{Reading, each, joined, told}
use Rattle.pbm.specs.File.{file}
use Rattle.pbm.specs.Contents.{opens, sized_as, from_dots, taken, shown}
use Rattle.pbm.specs.Spaced.{is_gap, are_gaps, Spacing, parts, sound, spread, line_signs, padded, spaced}

-- White space ---------------------------------------------------------------------------------------------------------

unfoldable pub gap_readings : List Reading
gap_readings =
    -- each byte: blank, tab, CR and LF are gaps; # alone is not, its line feed is wanted
    (
      each (λ (b : ℕ). told (is_gap false (b ∷ []))) 0 256,
      replicate 9 0 ++ (1 ∷ 1 ∷ 0 ∷ 0 ∷ 1 ∷ (replicate 18 0 ++ (1 ∷ replicate 223 0))),
    )
    -- each byte in a comment; LF ends it, and another is then white space
    ∷ (each (λ (b : ℕ). told (is_gap false (35 ∷ b ∷ 10 ∷ []))) 0 256, replicate 256 1)
    ∷ (each (λ (b : ℕ). told (is_gap true (b ∷ []))) 0 256, replicate 10 0 ++ (1 ∷ replicate 245 0))
    -- each byte behind a comment, and behind a blank
    ∷ (
      each (λ (b : ℕ). told (is_gap false (35 ∷ 65 ∷ 10 ∷ b ∷ []))) 0 256,
      replicate 9 0 ++ (1 ∷ 1 ∷ 0 ∷ 0 ∷ 1 ∷ (replicate 18 0 ++ (1 ∷ replicate 223 0))),
    )
    ∷ (
      each (λ (b : ℕ). told (is_gap false (32 ∷ b ∷ 13 ∷ []))) 0 256,
      replicate 9 0 ++ (1 ∷ 1 ∷ 0 ∷ 0 ∷ 1 ∷ (replicate 18 0 ++ (1 ∷ replicate 223 0))),
    )
    -- nothing is a gap, but no end of a comment
    ∷ (told (is_gap false []) ∷ told (is_gap true []) ∷ [], 1 ∷ 0 ∷ [])
    ∷ (
      told (is_gap false (32 ∷ 9 ∷ 13 ∷ 10 ∷ 10 ∷ [])) ∷ told (is_gap false (35 ∷ 97 ∷ 35 ∷ 98 ∷ 10 ∷ 9 ∷ 35 ∷ 10 ∷ []))
          ∷ told (is_gap false (35 ∷ 97 ∷ 10 ∷ 32 ∷ 35 ∷ 98 ∷ [])) ∷ told (is_gap false (35 ∷ 13 ∷ [])) ∷ [],
      1 ∷ 1 ∷ 0 ∷ 0 ∷ [],
    )
    -- all of a list
    ∷ (
      told (are_gaps []) ∷ told (are_gaps ([] ∷ (32 ∷ []) ∷ (35 ∷ 97 ∷ 10 ∷ []) ∷ [])) ∷ told (are_gaps ((120 ∷ []) ∷ (32 ∷ []) ∷ []))
          ∷ told (are_gaps ((32 ∷ []) ∷ (35 ∷ 97 ∷ []) ∷ [])) ∷ told (are_gaps ((32 ∷ []) ∷ (9 ∷ []) ∷ (48 ∷ []) ∷ [])) ∷ [],
      1 ∷ 1 ∷ 0 ∷ 0 ∷ 0 ∷ [],
    )
    -- some of it: not nothing
    ∷ (
      told (parts []) ∷ told (parts (32 ∷ [])) ∷ told (parts (35 ∷ 10 ∷ [])) ∷ told (parts (35 ∷ [])) ∷ told (parts (120 ∷ []))
          ∷ told (parts (13 ∷ 10 ∷ 9 ∷ [])) ∷ told (parts (32 ∷ 49 ∷ [])) ∷ [],
      0 ∷ 1 ∷ 1 ∷ 0 ∷ 0 ∷ 1 ∷ 0 ∷ [],
    )
    ∷ []

-- Spacings ------------------------------------------------------------------------------------------------------------

-- behind P1, the width and the height; zeros; before each dot
unfoldable pub spacing : List ℕ → List ℕ → List ℕ → ℕ → ℕ → List (List ℕ) → Spacing
spacing a b c n m gs = record { first = a; second = b; third = c; width_zeros = n; height_zeros = m; gaps = gs }

unfoldable pub sound_readings : List Reading
sound_readings = (
  told (sound (spacing (10 ∷ []) (32 ∷ []) (10 ∷ []) 0 0 [])) ∷ told (sound (spacing (35 ∷ 97 ∷ 10 ∷ []) (9 ∷ []) (13 ∷ 10
      ∷ []) 7 9 ([] ∷ (32 ∷ []) ∷ []))) ∷ [],
  1 ∷ 1 ∷ [],
)
    -- nothing behind P1, behind the width, behind the height
    ∷ (
      told (sound (spacing [] (32 ∷ []) (10 ∷ []) 0 0 [])) ∷ told (sound (spacing (10 ∷ []) [] (10 ∷ []) 0 0 []))
          ∷ told (sound (spacing (10 ∷ []) (32 ∷ []) [] 0 0 [])) ∷ [],
      0 ∷ 0 ∷ 0 ∷ [],
    )
    -- something else there, or before a dot
    ∷ (
      told (sound (spacing (120 ∷ []) (32 ∷ []) (10 ∷ []) 0 0 [])) ∷ told (sound (spacing (10 ∷ []) (44 ∷ []) (10 ∷ []) 0 0 []))
          ∷ told (sound (spacing (10 ∷ []) (32 ∷ []) (35 ∷ []) 0 0 [])) ∷ told (sound (spacing (10 ∷ []) (32 ∷ []) (10 ∷ []) 0 0 ((32
          ∷ []) ∷ (50 ∷ []) ∷ []))) ∷ [],
      0 ∷ 0 ∷ 0 ∷ 0 ∷ [],
    )
    ∷ []

-- Files ---------------------------------------------------------------------------------------------------------------

-- eight signs of each of k bytes from v on, the lowest bit first
unfoldable pub eights : ℕ → ℕ → List ℕ
eights v k = joined (λ (n : ℕ). each (λ (i : ℕ). 48 + n / 2 ^ i % 2) 0 8) v k

-- gaps before the first three dots
unfoldable pub three : List (List ℕ)
three = (32 ∷ []) ∷ (35 ∷ 97 ∷ 10 ∷ []) ∷ (13 ∷ 10 ∷ []) ∷ []

unfoldable pub spread_readings : List Reading
spread_readings =
    -- a gap before each sign; none where the gaps have ended; what follows the last
    (spread three (48 ∷ 49 ∷ 48 ∷ []) (120 ∷ []), 32 ∷ 48 ∷ 35 ∷ 97 ∷ 10 ∷ 49 ∷ 13 ∷ 10 ∷ 48 ∷ 120 ∷ [])
    ∷ (spread three (48 ∷ 49 ∷ 48 ∷ 48 ∷ 49 ∷ []) (10 ∷ []), 32 ∷ 48 ∷ 35 ∷ 97 ∷ 10 ∷ 49 ∷ 13 ∷ 10 ∷ 48 ∷ 48 ∷ 49 ∷ 10 ∷ [])
    ∷ (spread [] (48 ∷ 49 ∷ 49 ∷ 48 ∷ []) (50 ∷ []), 48 ∷ 49 ∷ 49 ∷ 48 ∷ 50 ∷ [])
    ∷ (spread three (49 ∷ []) (122 ∷ []) ++ (spread three [] (121 ∷ []) ++ spread [] [] []), 32 ∷ 49 ∷ 122 ∷ 121 ∷ [])
    ∷ (spread ([] ∷ (10 ∷ []) ∷ []) (49 ∷ 49 ∷ 49 ∷ []) [], 49 ∷ 10 ∷ 49 ∷ 49 ∷ [])
    -- the signs of the lowest h lines, the top one first, without line feeds
    ∷ (
      line_signs 8 3 (0x03 ∷ 0x0F ∷ 0x80 ∷ []),
      48 ∷ 48 ∷ 48 ∷ 48 ∷ 48 ∷ 48 ∷ 48 ∷ 49 ∷ 49 ∷ 49 ∷ 49 ∷ 49 ∷ 48 ∷ 48 ∷ 48 ∷ 48 ∷ 49 ∷ 49 ∷ 48 ∷ 48 ∷ 48 ∷ 48 ∷ 48 ∷ 48 ∷ [],
    )
    ∷ (line_signs 16 2 (1 ∷ 2 ∷ 3 ∷ 4 ∷ []), eights 3 2 ++ eights 1 2)
    ∷ (line_signs 64 3 (each (λ (v : ℕ). v) 1 24), eights 17 8 ++ (eights 9 8 ++ eights 1 8))
    ∷ (line_signs 8 1 (7 ∷ 9 ∷ []) ++ line_signs 8 0 (7 ∷ []), 49 ∷ 49 ∷ 49 ∷ 48 ∷ 48 ∷ 48 ∷ 48 ∷ 48 ∷ [])
    -- zeros before a number
    ∷ (
      padded 0 512 ++ (32 ∷ (padded 3 256 ++ (32 ∷ padded 1 0))),
      53 ∷ 49 ∷ 50 ∷ 32 ∷ 48 ∷ 48 ∷ 48 ∷ 50 ∷ 53 ∷ 54 ∷ 32 ∷ 48 ∷ 48 ∷ [],
    )
    ∷ []

unfoldable pub spaced_readings : List Reading
spaced_readings =
    -- each piece in its place: P1, a tab, 0064, two blanks, 1, CR LF, the dots with their gaps, a tail
    (
      spaced (spacing (9 ∷ []) (32 ∷ 32 ∷ []) (13 ∷ 10 ∷ []) 2 0 three) 64 1 (0x05 ∷ replicate 7 0) (116 ∷ 97 ∷ 105 ∷ 108 ∷ []),
      80 ∷ 49 ∷ 9 ∷ 48 ∷ 48 ∷ 54 ∷ 52 ∷ 32 ∷ 32 ∷ 49 ∷ 13 ∷ 10 ∷ 32 ∷ 49 ∷ 35 ∷ 97 ∷ 10 ∷ 48 ∷ 13 ∷ 10 ∷ 49 ∷ []
          ++ (replicate 61 48 ++ 116 ∷ 97 ∷ 105 ∷ 108 ∷ []),
    )
    ∷ (
      spaced (spacing (35 ∷ 97 ∷ 10 ∷ []) (10 ∷ []) (35 ∷ 10 ∷ []) 0 3 []) 128 2 (each (λ (v : ℕ). v) 1 32) [],
      80 ∷ 49 ∷ 35 ∷ 97 ∷ 10 ∷ 49 ∷ 50 ∷ 56 ∷ 10 ∷ 48 ∷ 48 ∷ 48 ∷ 50 ∷ 35 ∷ 10 ∷ [] ++ (eights 17 16 ++ eights 1 16),
    )
    -- such a file is read: its head, its size, its dots
    ∷ (
      told (opens (spaced (spacing (35 ∷ 97 ∷ 10 ∷ []) (9 ∷ []) (32 ∷ []) 9 5 three) 64 2 (each (λ (v : ℕ). v) 1 16) (50 ∷ [])))
          ∷ told (sized_as 64 2 (spaced (spacing (35 ∷ 97 ∷ 10 ∷ []) (9 ∷ []) (32 ∷ []) 9 5 three) 64 2 (each (λ (v : ℕ). v) 1 16) (50 ∷ [])))
          ∷ shown 64 2 (taken 128 (from_dots (spaced (spacing (35 ∷ 97 ∷ 10 ∷ []) (9 ∷ []) (32 ∷ []) 9 5 three) 64 2 (each (λ (v : ℕ). v) 1 16) (50 ∷ [])))),
      1 ∷ 1 ∷ each (λ (v : ℕ). v) 1 16,
    )
    -- with a LF, a blank and a LF, and a LF before each dot from the second line of 64 on: the file as it is written
    ∷ (
      spaced (spacing (10 ∷ []) (32 ∷ []) (10 ∷ []) 0 0 (replicate 64 [] ++ ((10 ∷ []) ∷ []))) 64 2 (each (λ (v : ℕ). v) 1 16) (10 ∷ []),
      file 64 2 (each (λ (v : ℕ). v) 1 16),
    )
    ∷ []
