-- What a file says: its characters, its white space and comments, where its numbers and its dots begin. 9 is the tab, 10 LF, 13 CR,
-- 32 the blank, 35 #; 48 to 57 are the digits.
-- Assumes nothing.
use Rattle.std.specs.Prelude.{ℕ, true, false, List, [], ◌∷◌, ◌++◌, replicate}
use Rattle.basis.specs.Reading.{Reading, each, joined, told}
use Rattle.pbm.specs.Contents.{is_white, hash, passed, is_digit, digits, behind_digits, from_width, from_height, from_dots, is_dot}

-- P1, 512 and 256, each before what follows it
unfoldable pub p1 : List ℕ → List ℕ
p1 t = 80 ∷ 49 ∷ t

unfoldable pub n512 : List ℕ → List ℕ
n512 t = 53 ∷ 49 ∷ 50 ∷ t

unfoldable pub n256 : List ℕ → List ℕ
n256 t = 50 ∷ 53 ∷ 54 ∷ t

-- Characters ----------------------------------------------------------------------------------------------------------

-- for each byte, one list where it is blank, tab, CR or LF, one for #, and one where it is any other
unfoldable pub by_white : List ℕ → List ℕ → (ℕ → List ℕ) → List ℕ
by_white white comment other =
    joined other 0 9
    ++ (white ++ (white ++ (joined other 11 2 ++ (white ++ (joined other 14 18 ++ (white ++ (joined other 33 2 ++ (comment ++ joined other 36 220))))))))

-- and by digits: f of each digit's byte, and one list for any other byte
unfoldable pub by_digit : (ℕ → List ℕ) → List ℕ → List ℕ
by_digit f other = joined (λ (b : ℕ). other) 0 48 ++ (joined f 48 10 ++ joined (λ (b : ℕ). other) 58 198)

unfoldable pub character_readings : List Reading
character_readings =
    -- of all bytes four are white space: 9, 10, 13 and 32; VT, FF and NUL are not, and # is not one itself
    (
      each (λ (b : ℕ). told (is_white b)) 0 256,
      replicate 9 0 ++ (1 ∷ 1 ∷ 0 ∷ 0 ∷ 1 ∷ (replicate 18 0 ++ (1 ∷ replicate 223 0))),
    )
    ∷ (hash ∷ [], 35 ∷ [])
    -- ten are digits, 48 to 57; no letter is
    ∷ (each (λ (b : ℕ). told (is_digit b)) 0 256, replicate 48 0 ++ (replicate 10 1 ++ replicate 198 0))
    -- two are dots
    ∷ (each (λ (b : ℕ). told (is_dot b)) 0 256, replicate 48 0 ++ (1 ∷ 1 ∷ replicate 206 0))
    ∷ []

-- White space and comments --------------------------------------------------------------------------------------------

unfoldable pub passed_readings : List Reading
passed_readings =
    -- each byte before 7: white space is passed, # and all behind it, any other byte stays
    (joined (λ (b : ℕ). passed false (b ∷ 55 ∷ [])) 0 256, by_white (55 ∷ []) [] (λ (b : ℕ). b ∷ 55 ∷ []))
    -- each byte behind a blank and a LF
    ∷ (joined (λ (b : ℕ). passed false (32 ∷ 10 ∷ b ∷ [])) 0 256, by_white [] [] (λ (b : ℕ). b ∷ []))
    -- each byte inside a comment: LF alone ends it, CR does not, nor VT, FF, NUL or another #
    ∷ (joined (λ (b : ℕ). passed false (35 ∷ b ∷ 55 ∷ [])) 0 256, 55 ∷ [])
    ∷ (joined (λ (b : ℕ). passed true (b ∷ 55 ∷ [])) 0 256, 55 ∷ [])
    ∷ (joined (λ (b : ℕ). passed false (35 ∷ b ∷ 10 ∷ 55 ∷ [])) 0 256, joined (λ (b : ℕ). 55 ∷ []) 0 256)
    -- the end of the file ends one too
    ∷ (
      passed false [] ++ (passed true [] ++ (passed false (35 ∷ []) ++ (passed false (32 ∷ 35 ∷ 32 ∷ 49 ∷ 50 ∷ 32 ∷ 51 ∷ 52 ∷ [])
          ++ passed true (49 ∷ 50 ∷ [])))),
      [],
    )
    -- blanks, tabs, CRs and LFs as many as there are; none at all; the rest stays whole
    ∷ (passed false (32 ∷ 9 ∷ 13 ∷ 10 ∷ 32 ∷ 9 ∷ 13 ∷ 10 ∷ 10 ∷ 10 ∷ 53 ∷ 32 ∷ 54 ∷ 10 ∷ []), 53 ∷ 32 ∷ 54 ∷ 10 ∷ [])
    ∷ (passed false (53 ∷ 54 ∷ 32 ∷ 55 ∷ []) ++ passed false (replicate 300 32 ++ 56 ∷ []), 53 ∷ 54 ∷ 32 ∷ 55 ∷ 56 ∷ [])
    -- comments in a row, with white space between and without; a # in a comment begins no other; a # behind a sign is not reached;
    -- a comment of 300 bytes
    ∷ (passed false (35 ∷ 97 ∷ 10 ∷ 35 ∷ 98 ∷ 10 ∷ 49 ∷ []), 49 ∷ [])
    ∷ (
      passed false (32 ∷ 35 ∷ 32 ∷ 97 ∷ 32 ∷ 35 ∷ 32 ∷ 98 ∷ 10 ∷ 32 ∷ 9 ∷ 35 ∷ 32 ∷ 99 ∷ 13 ∷ 10 ∷ 10 ∷ 50 ∷ 32 ∷ 35 ∷ 100 ∷ 10 ∷ []),
      50 ∷ 32 ∷ 35 ∷ 100 ∷ 10 ∷ [],
    )
    ∷ (passed false (35 ∷ 35 ∷ 10 ∷ 51 ∷ []) ++ passed false (35 ∷ 10 ∷ 52 ∷ []), 51 ∷ 52 ∷ [])
    ∷ (passed false (35 ∷ 13 ∷ 53 ∷ 10 ∷ 54 ∷ []), 54 ∷ [])
    ∷ (passed false (49 ∷ 35 ∷ 97 ∷ 10 ∷ 50 ∷ []), 49 ∷ 35 ∷ 97 ∷ 10 ∷ 50 ∷ [])
    ∷ (passed false (35 ∷ (replicate 300 65 ++ 10 ∷ 56 ∷ [])), 56 ∷ [])
    ∷ (passed true (49 ∷ 32 ∷ 50 ∷ 10 ∷ 51 ∷ 32 ∷ 52 ∷ []), 51 ∷ 32 ∷ 52 ∷ [])
    ∷ []

-- Numbers -------------------------------------------------------------------------------------------------------------

unfoldable pub number_readings : List Reading
number_readings =
    -- digits as far as they go, and what is left behind them
    (digits (n512 (32 ∷ n256 [])), n512 [])
    ∷ (behind_digits (n512 (32 ∷ n256 [])), 32 ∷ n256 [])
    ∷ (digits (48 ∷ n512 []), 48 ∷ n512 [])
    ∷ (digits [] ++ (digits (32 ∷ n512 []) ++ (digits (120 ∷ 49 ∷ []) ++ (digits (43 ∷ 53 ∷ []) ++ digits (35 ∷ 53 ∷ [])))), [])
    ∷ (
      behind_digits [] ++ (behind_digits (48 ∷ 48 ∷ 55 ∷ []) ++ (behind_digits (32 ∷ n512 []) ++ (behind_digits (120 ∷ 49 ∷ [])
          ++ behind_digits (45 ∷ 53 ∷ [])))),
      32 ∷ n512 (120 ∷ 49 ∷ 45 ∷ 53 ∷ []),
    )
    ∷ (digits (49 ∷ 50 ∷ 35 ∷ 51 ∷ []) ++ behind_digits (49 ∷ 50 ∷ 35 ∷ 51 ∷ []), 49 ∷ 50 ∷ 35 ∷ 51 ∷ [])
    ∷ (digits (49 ∷ 120 ∷ 50 ∷ []) ++ behind_digits (49 ∷ 120 ∷ 50 ∷ []), 49 ∷ 120 ∷ 50 ∷ [])
    -- each byte alone, and behind one digit and before another
    ∷ (joined (λ (b : ℕ). digits (b ∷ [])) 0 256, 48 ∷ 49 ∷ 50 ∷ 51 ∷ 52 ∷ 53 ∷ 54 ∷ 55 ∷ 56 ∷ 57 ∷ [])
    ∷ (joined (λ (b : ℕ). digits (55 ∷ b ∷ 56 ∷ [])) 0 256, by_digit (λ (b : ℕ). 55 ∷ b ∷ 56 ∷ []) (55 ∷ []))
    ∷ (
      joined (λ (b : ℕ). behind_digits (55 ∷ b ∷ 56 ∷ [])) 0 256,
      joined (λ (b : ℕ). b ∷ 56 ∷ []) 0 48 ++ joined (λ (b : ℕ). b ∷ 56 ∷ []) 58 198,
    )
    -- any number of them: five, six, 300
    ∷ (
      digits (54 ∷ 53 ∷ 53 ∷ 51 ∷ 54 ∷ 32 ∷ []) ++ (digits (49 ∷ 50 ∷ 51 ∷ 52 ∷ 53 ∷ 54 ∷ 32 ∷ [])
          ++ digits (replicate 300 57 ++ 120 ∷ [])),
      54 ∷ 53 ∷ 53 ∷ 51 ∷ 54 ∷ 49 ∷ 50 ∷ 51 ∷ 52 ∷ 53 ∷ 54 ∷ [] ++ replicate 300 57,
    )
    ∷ (
      behind_digits (54 ∷ 53 ∷ 53 ∷ 51 ∷ 54 ∷ 32 ∷ []) ++ (behind_digits (49 ∷ 50 ∷ 51 ∷ 52 ∷ 53 ∷ 54 ∷ 120 ∷ [])
          ++ behind_digits (replicate 300 57 ++ 121 ∷ [])),
      32 ∷ 120 ∷ 121 ∷ [],
    )
    ∷ []

-- from the width, from the height, from the dots, each ended by |
unfoldable pub from_each : List ℕ → List ℕ
from_each t = from_width t ++ (124 ∷ (from_height t ++ (124 ∷ (from_dots t ++ (124 ∷ [])))))

unfoldable pub place_readings : List Reading
place_readings =
    -- P1 LF 512 256 LF 0110
    (
      from_each (p1 (10 ∷ n512 (32 ∷ n256 (10 ∷ 48 ∷ 49 ∷ 49 ∷ 48 ∷ [])))),
      n512 (32 ∷ n256 (10 ∷ 48 ∷ 49 ∷ 49 ∷ 48 ∷ 124 ∷ n256 (10 ∷ 48 ∷ 49 ∷ 49 ∷ 48 ∷ 124 ∷ 10 ∷ 48 ∷ 49 ∷ 49 ∷ 48 ∷ 124 ∷ []))),
    )
    -- other white space, and much of it
    ∷ (
      from_each (p1 (32 ∷ 9 ∷ 53 ∷ 13 ∷ 10 ∷ 10 ∷ 50 ∷ 32 ∷ 32 ∷ 48 ∷ 32 ∷ 49 ∷ [])),
      53 ∷ 13 ∷ 10 ∷ 10 ∷ 50 ∷ 32 ∷ 32 ∷ 48 ∷ 32 ∷ 49 ∷ 124 ∷ 50 ∷ 32 ∷ 32 ∷ 48 ∷ 32 ∷ 49 ∷ 124 ∷ 32 ∷ 32 ∷ 48 ∷ 32 ∷ 49 ∷ 124 ∷ [],
    )
    -- a comment is white space: behind P1, behind the width, behind the height; it parts digits
    ∷ (
      from_each (p1 (35 ∷ 97 ∷ 10 ∷ n512 (35 ∷ 98 ∷ 10 ∷ n256 (35 ∷ 99 ∷ 10 ∷ 48 ∷ 49 ∷ [])))),
      n512 (35 ∷ 98 ∷ 10 ∷ n256 (35 ∷ 99 ∷ 10 ∷ 48 ∷ 49 ∷ 124 ∷ n256 (35 ∷ 99 ∷ 10 ∷ 48 ∷ 49 ∷ 124 ∷ 35 ∷ 99 ∷ 10 ∷ 48 ∷ 49 ∷ 124
          ∷ []))),
    )
    ∷ (
      from_each (p1 (32 ∷ 35 ∷ 32 ∷ 49 ∷ 32 ∷ 50 ∷ 10 ∷ 51 ∷ 32 ∷ 35 ∷ 32 ∷ 52 ∷ 10 ∷ 9 ∷ 53 ∷ 32 ∷ 35 ∷ 32 ∷ 54 ∷ 10 ∷ [])),
      51 ∷ 32 ∷ 35 ∷ 32 ∷ 52 ∷ 10 ∷ 9 ∷ 53 ∷ 32 ∷ 35 ∷ 32 ∷ 54 ∷ 10 ∷ 124 ∷ 53 ∷ 32 ∷ 35 ∷ 32 ∷ 54 ∷ 10 ∷ 124 ∷ 32 ∷ 35 ∷ 32 ∷ 54 ∷ 10
          ∷ 124 ∷ [],
    )
    ∷ (
      from_each (p1 (10 ∷ 53 ∷ 49 ∷ 35 ∷ 10 ∷ 50 ∷ 32 ∷ n256 (10 ∷ []))),
      53 ∷ 49 ∷ 35 ∷ 10 ∷ 50 ∷ 32 ∷ n256 (10 ∷ 124 ∷ 50 ∷ 32 ∷ n256 (10 ∷ 124 ∷ 32 ∷ n256 (10 ∷ 124 ∷ []))),
    )
    -- whatever stands first is dropped: two bytes; nothing is left of a file that ends early
    ∷ (from_each (120 ∷ 121 ∷ 55 ∷ 32 ∷ 56 ∷ 32 ∷ 57 ∷ []), 55 ∷ 32 ∷ 56 ∷ 32 ∷ 57 ∷ 124 ∷ 56 ∷ 32 ∷ 57 ∷ 124 ∷ 32 ∷ 57 ∷ 124 ∷ [])
    ∷ (
      from_each [] ++ (from_each (80 ∷ []) ++ (from_each (p1 []) ++ from_each (p1 (10 ∷ [])))),
      124 ∷ 124 ∷ 124 ∷ 124 ∷ 124 ∷ 124 ∷ 124 ∷ 124 ∷ 124 ∷ 124 ∷ 124 ∷ 124 ∷ [],
    )
    ∷ (
      from_each (p1 (10 ∷ n512 [])) ++ from_each (p1 (10 ∷ n512 (32 ∷ n256 []))),
      n512 (124 ∷ 124 ∷ 124 ∷ n512 (32 ∷ n256 (124 ∷ n256 (124 ∷ 124 ∷ [])))),
    )
    -- a sign that is no digit is not passed
    ∷ (from_each (p1 (10 ∷ 120 ∷ 32 ∷ 53 ∷ [])), 120 ∷ 32 ∷ 53 ∷ 124 ∷ 120 ∷ 32 ∷ 53 ∷ 124 ∷ 120 ∷ 32 ∷ 53 ∷ 124 ∷ [])
    ∷ (
      from_each (p1 (32 ∷ 52 ∷ 44 ∷ 53 ∷ 32 ∷ 54 ∷ [])),
      52 ∷ 44 ∷ 53 ∷ 32 ∷ 54 ∷ 124 ∷ 44 ∷ 53 ∷ 32 ∷ 54 ∷ 124 ∷ 44 ∷ 53 ∷ 32 ∷ 54 ∷ 124 ∷ [],
    )
    ∷ []
