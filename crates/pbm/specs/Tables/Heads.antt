-- Heads: P1 and two whole numbers, and whether they are the size. 9 is the tab, 10 LF, 11 VT, 12 FF, 13 CR, 32 the blank, 35 #.
-- Assumes nothing.
use Rattle.std.specs.Prelude.{ℕ, ◌+◌, ◌^◌, List, [], ◌∷◌, ◌++◌, replicate}
use Rattle.basis.specs.Reading.{Reading, each, joined, told}
use Rattle.text.specs.Numbers.{decimal_by}
use Rattle.pbm.specs.Contents.{marked, opens, sized_as}
use Rattle.pbm.specs.Tables.Texts.{p1, n512, n256, by_white, by_digit}

-- P1 and numbers --------------------------------------------------------------------------------------------------------

-- whether P1 and white space stand at the start, and two whole numbers behind them
unfoldable pub opened : List ℕ → List ℕ
opened t = told (marked t) ∷ told (opens t) ∷ []

unfoldable pub open_readings : List Reading
open_readings =
    -- P1 LF 512 256 LF; with blanks; with tabs; with CRs
    (opened (p1 (10 ∷ n512 (32 ∷ n256 (10 ∷ [])))), 1 ∷ 1 ∷ [])
    ∷ (
      opened (p1 (32 ∷ n512 (32 ∷ n256 (32 ∷ [])))) ++ (opened (p1 (9 ∷ n512 (9 ∷ n256 (9 ∷ [])))) ++ opened (p1 (13 ∷ n512 (13 ∷ n256 (13 ∷ []))))),
      replicate 6 1,
    )
    -- P1 directly followed by #; a comment behind white space; behind the width; two of them
    ∷ (
      opened (p1 (35 ∷ 10 ∷ n512 (32 ∷ n256 []))) ++ opened (p1 (35 ∷ 110 ∷ 105 ∷ 103 ∷ 104 ∷ 116 ∷ 10 ∷ n512 (32 ∷ n256 []))),
      replicate 4 1,
    )
    ∷ (
      opened (p1 (32 ∷ 35 ∷ 32 ∷ 97 ∷ 10 ∷ n512 (32 ∷ n256 []))) ++ (opened (p1 (10 ∷ n512 (35 ∷ 98 ∷ 10 ∷ n256 [])))
          ++ opened (p1 (10 ∷ 35 ∷ 32 ∷ 97 ∷ 10 ∷ 35 ∷ 32 ∷ 98 ∷ 10 ∷ n512 (32 ∷ 35 ∷ 32 ∷ 99 ∷ 10 ∷ n256 [])))),
      replicate 6 1,
    )
    -- one digit each, many digits each, leading zeros; the file may end behind the height
    ∷ (
      opened (p1 (32 ∷ 53 ∷ 32 ∷ 50 ∷ [])) ++ (opened (p1 (32 ∷ 48 ∷ n512 (32 ∷ 48 ∷ 48 ∷ n256 []))) ++ opened (p1 (32 ∷ 49 ∷ 50 ∷ 51 ∷ 52 ∷ 53 ∷ 54 ∷ 55 ∷ 56 ∷ 57 ∷ 48 ∷ 49 ∷ 50 ∷ 51 ∷ 52 ∷ 53 ∷ 54 ∷ 55 ∷ 56 ∷ 57 ∷ 48 ∷ 49 ∷ 32 ∷ 48 ∷ []))),
      replicate 6 1,
    )
    -- directly followed by a digit; by nothing; by another sign
    ∷ (
      opened (p1 (n512 (32 ∷ n256 []))) ++ (opened (p1 []) ++ (opened (p1 (120 ∷ 32 ∷ n512 (32 ∷ n256 [])))
          ++ opened (p1 (p1 (32 ∷ n512 (32 ∷ n256 [])))))),
      replicate 8 0,
    )
    -- too short
    ∷ (opened [] ++ (opened (80 ∷ []) ++ opened (49 ∷ [])), replicate 6 0)
    -- white space or a comment before P1
    ∷ (
      opened (32 ∷ p1 (10 ∷ n512 (32 ∷ n256 []))) ++ (opened (10 ∷ p1 (10 ∷ n512 (32 ∷ n256 []))) ++ (opened (9 ∷ p1 (10 ∷ n512 (32 ∷ n256 [])))
          ++ opened (35 ∷ 97 ∷ 10 ∷ p1 (10 ∷ n512 (32 ∷ n256 []))))),
      replicate 8 0,
    )
    -- another mark: P2, P4, p1, Q1, 1P
    ∷ (
      opened (80 ∷ 50 ∷ 10 ∷ n512 (32 ∷ n256 [])) ++ (opened (80 ∷ 52 ∷ 10 ∷ n512 (32 ∷ n256 [])) ++ (opened (112 ∷ 49 ∷ 10 ∷ n512 (32 ∷ n256 []))
          ++ (opened (81 ∷ 49 ∷ 10 ∷ n512 (32 ∷ n256 [])) ++ opened (49 ∷ 80 ∷ 10 ∷ n512 (32 ∷ n256 []))))),
      replicate 10 0,
    )
    -- no width; no height; a comment that hides it
    ∷ (
      opened (p1 (32 ∷ [])) ++ (opened (p1 (10 ∷ [])) ++ (opened (p1 (35 ∷ [])) ++ opened (p1 (35 ∷ n512 (32 ∷ n256 []))))),
      1 ∷ 0 ∷ 1 ∷ 0 ∷ 1 ∷ 0 ∷ 1 ∷ 0 ∷ [],
    )
    ∷ (
      opened (p1 (10 ∷ n512 [])) ++ (opened (p1 (10 ∷ n512 (32 ∷ []))) ++ (opened (p1 (10 ∷ n512 (35 ∷ n256 [])))
          ++ opened (p1 (10 ∷ n512 (32 ∷ 120 ∷ []))))),
      1 ∷ 0 ∷ 1 ∷ 0 ∷ 1 ∷ 0 ∷ 1 ∷ 0 ∷ [],
    )
    -- 512x256; 512,256; signs before a number
    ∷ (
      opened (p1 (10 ∷ n512 (120 ∷ n256 []))) ++ (opened (p1 (10 ∷ n512 (44 ∷ n256 []))) ++ opened (p1 (10 ∷ 120 ∷ n512 (32 ∷ n256 [])))),
      1 ∷ 0 ∷ 1 ∷ 0 ∷ 1 ∷ 0 ∷ [],
    )
    ∷ (
      opened (p1 (10 ∷ 43 ∷ n512 (32 ∷ n256 []))) ++ (opened (p1 (10 ∷ 45 ∷ n512 (32 ∷ n256 []))) ++ (opened (p1 (10 ∷ n512 (32 ∷ 43 ∷ n256 [])))
          ++ opened (p1 (10 ∷ n512 (32 ∷ 45 ∷ n256 []))))),
      1 ∷ 0 ∷ 1 ∷ 0 ∷ 1 ∷ 0 ∷ 1 ∷ 0 ∷ [],
    )
    -- VT, FF and NUL behind P1, before the width, between the numbers
    ∷ (
      opened (p1 (11 ∷ n512 (32 ∷ n256 []))) ++ (opened (p1 (12 ∷ n512 (32 ∷ n256 []))) ++ opened (p1 (0 ∷ n512 (32 ∷ n256 [])))),
      replicate 6 0,
    )
    ∷ (
      opened (p1 (10 ∷ 11 ∷ n512 (32 ∷ n256 []))) ++ (opened (p1 (10 ∷ 12 ∷ n512 (32 ∷ n256 []))) ++ opened (p1 (10 ∷ 0 ∷ n512 (32 ∷ n256 [])))),
      1 ∷ 0 ∷ 1 ∷ 0 ∷ 1 ∷ 0 ∷ [],
    )
    ∷ (
      opened (p1 (10 ∷ n512 (11 ∷ n256 []))) ++ (opened (p1 (10 ∷ n512 (12 ∷ n256 []))) ++ opened (p1 (10 ∷ n512 (0 ∷ n256 [])))),
      1 ∷ 0 ∷ 1 ∷ 0 ∷ 1 ∷ 0 ∷ [],
    )
    -- each byte in the place of P, of 1, behind P1, between the numbers
    ∷ (joined (λ (b : ℕ). opened (b ∷ 49 ∷ 10 ∷ 53 ∷ 32 ∷ 50 ∷ [])) 0 256, replicate 160 0 ++ (1 ∷ 1 ∷ replicate 350 0))
    ∷ (joined (λ (b : ℕ). opened (80 ∷ b ∷ 10 ∷ 53 ∷ 32 ∷ 50 ∷ [])) 0 256, replicate 98 0 ++ (1 ∷ 1 ∷ replicate 412 0))
    ∷ (
      joined (λ (b : ℕ). opened (80 ∷ 49 ∷ b ∷ 10 ∷ 53 ∷ 32 ∷ 50 ∷ [])) 0 256,
      by_white (1 ∷ 1 ∷ []) (1 ∷ 1 ∷ []) (λ (b : ℕ). 0 ∷ 0 ∷ []),
    )
    ∷ (
      joined (λ (b : ℕ). opened (80 ∷ 49 ∷ 10 ∷ 53 ∷ b ∷ 50 ∷ [])) 0 256,
      by_white (1 ∷ 1 ∷ []) (1 ∷ 0 ∷ []) (λ (b : ℕ). 1 ∷ 0 ∷ []),
    )
    ∷ (joined (λ (b : ℕ). opened (80 ∷ 49 ∷ 10 ∷ b ∷ 32 ∷ 50 ∷ [])) 0 256, by_digit (λ (b : ℕ). 1 ∷ 1 ∷ []) (1 ∷ 0 ∷ []))
    ∷ (joined (λ (b : ℕ). opened (80 ∷ 49 ∷ 10 ∷ 53 ∷ 10 ∷ b ∷ [])) 0 256, by_digit (λ (b : ℕ). 1 ∷ 1 ∷ []) (1 ∷ 0 ∷ []))
    ∷ []

-- Sizes ---------------------------------------------------------------------------------------------------------------

-- whether a file says 512 256; 512 512; 256 256; 256 512
unfoldable pub sized : List ℕ → List ℕ
sized t = told (sized_as 512 256 t) ∷ told (sized_as 512 512 t) ∷ told (sized_as 256 256 t) ∷ told (sized_as 256 512 t) ∷ []

-- a file that says so many dots a line and so many lines: whether it is one of 512 256
unfoldable pub said : ℕ → ℕ → ℕ
said w h = told (sized_as 512 256 (80 ∷ 49 ∷ 10 ∷ (decimal_by 22 w ++ (32 ∷ (decimal_by 22 h ++ (10 ∷ []))))))

unfoldable pub size_readings : List Reading
size_readings =
    -- the width first, then the height
    (sized (p1 (10 ∷ n512 (32 ∷ n256 (10 ∷ 48 ∷ 49 ∷ 48 ∷ 49 ∷ [])))), 1 ∷ 0 ∷ 0 ∷ 0 ∷ [])
    ∷ (sized (p1 (10 ∷ n512 (32 ∷ n512 (10 ∷ [])))), 0 ∷ 1 ∷ 0 ∷ 0 ∷ [])
    ∷ (sized (p1 (10 ∷ n256 (32 ∷ n256 (10 ∷ [])))), 0 ∷ 0 ∷ 1 ∷ 0 ∷ [])
    ∷ (sized (p1 (10 ∷ n256 (32 ∷ n512 (10 ∷ [])))), 0 ∷ 0 ∷ 0 ∷ 1 ∷ [])
    -- white space and comments between
    ∷ (sized (p1 (35 ∷ 97 ∷ 10 ∷ n512 (32 ∷ 9 ∷ 35 ∷ 98 ∷ 13 ∷ 10 ∷ 13 ∷ 10 ∷ n256 []))), 1 ∷ 0 ∷ 0 ∷ 0 ∷ [])
    -- leading zeros, one, some, 300
    ∷ (
      sized (p1 (10 ∷ 48 ∷ n512 (32 ∷ n256 (10 ∷ [])))) ++ sized (p1 (10 ∷ n512 (32 ∷ 48 ∷ 48 ∷ 48 ∷ n256 (10 ∷ [])))),
      1 ∷ 0 ∷ 0 ∷ 0 ∷ 1 ∷ 0 ∷ 0 ∷ 0 ∷ [],
    )
    ∷ (
      sized (80 ∷ 49 ∷ 10 ∷ (replicate 300 48 ++ n512 (32 ∷ 48 ∷ 48 ∷ 48 ∷ 48 ∷ 48 ∷ 48 ∷ 48 ∷ 48 ∷ n256 []))),
      1 ∷ 0 ∷ 0 ∷ 0 ∷ [],
    )
    -- digits run as far as they go: 512 followed at once by 2560101, by 256x
    ∷ (
      sized (p1 (10 ∷ n512 (32 ∷ n256 (48 ∷ 49 ∷ 48 ∷ 49 ∷ [])))) ++ sized (p1 (10 ∷ n512 (32 ∷ n256 (120 ∷ 48 ∷ 49 ∷ 48 ∷ 49 ∷ [])))),
      0 ∷ 0 ∷ 0 ∷ 0 ∷ 1 ∷ 0 ∷ 0 ∷ 0 ∷ [],
    )
    -- digits lacking, digits more, two numbers for one
    ∷ (
      sized (p1 (10 ∷ 53 ∷ 49 ∷ 32 ∷ n256 [])) ++ (sized (p1 (10 ∷ n512 (32 ∷ 50 ∷ 53 ∷ []))) ++ (sized (p1 (10 ∷ n512 (48 ∷ 32 ∷ n256 [])))
          ++ (sized (p1 (10 ∷ 49 ∷ n512 (32 ∷ n256 []))) ++ sized (p1 (10 ∷ 53 ∷ 49 ∷ 35 ∷ 10 ∷ 50 ∷ 32 ∷ n256 []))))),
      replicate 20 0,
    )
    -- one more and one less
    ∷ (
      said 512 256 ∷ said 511 256 ∷ said 513 256 ∷ said 512 255 ∷ said 512 257 ∷ said 256 512 ∷ said 0 0 ∷ [],
      1 ∷ 0 ∷ 0 ∷ 0 ∷ 0 ∷ 0 ∷ 0 ∷ [],
    )
    -- numbers never wrap: 512 and 256 more than 2 to the powers 10 to 70, each
    ∷ (each (λ (k : ℕ). said (2 ^ k + 512) 256) 10 61, replicate 61 0)
    ∷ (each (λ (k : ℕ). said 512 (2 ^ k + 256)) 10 61, replicate 61 0)
    -- 66048, 65792; 4294967808, 4294967552; 18446744073709552128, 18446744073709551872
    ∷ (
      sized (p1 (10 ∷ 54 ∷ 54 ∷ 48 ∷ 52 ∷ 56 ∷ 32 ∷ n256 (10 ∷ []))) ++ sized (p1 (10 ∷ n512 (32 ∷ 54 ∷ 53 ∷ 55 ∷ 57 ∷ 50 ∷ 10 ∷ []))),
      replicate 8 0,
    )
    ∷ (
      sized (p1 (10 ∷ 52 ∷ 50 ∷ 57 ∷ 52 ∷ 57 ∷ 54 ∷ 55 ∷ 56 ∷ 48 ∷ 56 ∷ 32 ∷ n256 (10 ∷ []))) ++ sized (p1 (10 ∷ n512 (32 ∷ 52 ∷ 50 ∷ 57 ∷ 52 ∷ 57 ∷ 54 ∷ 55 ∷ 53 ∷ 53 ∷ 50 ∷ 10 ∷ []))),
      replicate 8 0,
    )
    ∷ (
      sized (p1 (10 ∷ 49 ∷ 56 ∷ 52 ∷ 52 ∷ 54 ∷ 55 ∷ 52 ∷ 52 ∷ 48 ∷ 55 ∷ 51 ∷ 55 ∷ 48 ∷ 57 ∷ 53 ∷ 53 ∷ 50 ∷ 49 ∷ 50 ∷ 56 ∷ 32 ∷ n256 (10 ∷ [])))
          ++ sized (p1 (10 ∷ n512 (32 ∷ 49 ∷ 56 ∷ 52 ∷ 52 ∷ 54 ∷ 55 ∷ 52 ∷ 52 ∷ 48 ∷ 55 ∷ 51 ∷ 55 ∷ 48 ∷ 57 ∷ 53 ∷ 53 ∷ 49 ∷ 56 ∷ 55 ∷ 50 ∷ 10 ∷ []))),
      replicate 8 0,
    )
    ∷ []
