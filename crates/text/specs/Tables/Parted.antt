-- Lines and fields: 9 is the tab, 10 the line feed.
-- Assumes nothing.
use Rattle.std.specs.Prelude.{ℕ, suc, ◌-◌, List, [], ◌∷◌, ◌++◌, length, replicate}
use Rattle.basis.specs.Reading.{Reading, joined}
use Rattle.text.specs.Pieces.{tab, line_feed, attached, lines_of, fields_of}

-- pieces as a row: how many, then for each its length and its bytes
unfoldable pub inside : List (List ℕ) → List ℕ
inside [] = []
inside (l ∷ ls) = length l ∷ (l ++ inside ls)

unfoldable pub pieces_row : List (List ℕ) → List ℕ
pieces_row ls = length ls ∷ inside ls

unfoldable pub of_lines : List ℕ → List ℕ
of_lines t = pieces_row (lines_of t)

unfoldable pub of_fields : List ℕ → List ℕ
of_fields t = pieces_row (fields_of t)

-- for each byte but s, f of it; for s itself, the list given
unfoldable pub but_for : ℕ → List ℕ → (ℕ → List ℕ) → List ℕ
but_for s own f = joined f 0 s ++ (own ++ joined f (suc s) (255 - s))

unfoldable pub parted : List Reading
parted =
    (tab ∷ line_feed ∷ [], 9 ∷ 10 ∷ [])
    -- a line feed ends a line, the last may be missing; an empty input has no line
    ∷ (of_lines [], 0 ∷ [])
    ∷ (of_lines (10 ∷ []), 1 ∷ 0 ∷ [])
    ∷ (of_lines (10 ∷ 10 ∷ 10 ∷ []), 3 ∷ 0 ∷ 0 ∷ 0 ∷ [])
    ∷ (of_lines (65 ∷ []), 1 ∷ 1 ∷ 65 ∷ [])
    ∷ (of_lines (65 ∷ 10 ∷ []), 1 ∷ 1 ∷ 65 ∷ [])
    ∷ (of_lines (65 ∷ 66 ∷ 10 ∷ 67 ∷ 68 ∷ 69 ∷ []), 2 ∷ 2 ∷ 65 ∷ 66 ∷ 3 ∷ 67 ∷ 68 ∷ 69 ∷ [])
    ∷ (of_lines (65 ∷ 66 ∷ 10 ∷ 67 ∷ 68 ∷ 69 ∷ 10 ∷ []), 2 ∷ 2 ∷ 65 ∷ 66 ∷ 3 ∷ 67 ∷ 68 ∷ 69 ∷ [])
    ∷ (of_lines (10 ∷ 65 ∷ 10 ∷ 10 ∷ 66 ∷ 10 ∷ 10 ∷ []), 5 ∷ 0 ∷ 1 ∷ 65 ∷ 0 ∷ 1 ∷ 66 ∷ 0 ∷ [])
    ∷ (of_lines (9 ∷ 13 ∷ 10 ∷ 9 ∷ 9 ∷ []), 2 ∷ 2 ∷ 9 ∷ 13 ∷ 2 ∷ 9 ∷ 9 ∷ [])
    -- fields are parted by tabs: one more than there are tabs
    ∷ (of_fields [], 1 ∷ 0 ∷ [])
    ∷ (of_fields (9 ∷ []), 2 ∷ 0 ∷ 0 ∷ [])
    ∷ (of_fields (9 ∷ 9 ∷ 9 ∷ []), 4 ∷ 0 ∷ 0 ∷ 0 ∷ 0 ∷ [])
    ∷ (of_fields (65 ∷ []), 1 ∷ 1 ∷ 65 ∷ [])
    ∷ (of_fields (65 ∷ 9 ∷ []), 2 ∷ 1 ∷ 65 ∷ 0 ∷ [])
    ∷ (of_fields (9 ∷ 65 ∷ []), 2 ∷ 0 ∷ 1 ∷ 65 ∷ [])
    ∷ (of_fields (65 ∷ 66 ∷ 9 ∷ 67 ∷ 68 ∷ 69 ∷ []), 2 ∷ 2 ∷ 65 ∷ 66 ∷ 3 ∷ 67 ∷ 68 ∷ 69 ∷ [])
    ∷ (of_fields (87 ∷ 9 ∷ 9 ∷ 49 ∷ 50 ∷ 9 ∷ []), 4 ∷ 1 ∷ 87 ∷ 0 ∷ 2 ∷ 49 ∷ 50 ∷ 0 ∷ [])
    ∷ (of_fields (10 ∷ 9 ∷ 10 ∷ 10 ∷ []), 2 ∷ 1 ∷ 10 ∷ 2 ∷ 10 ∷ 10 ∷ [])
    -- each byte alone and between two: the line feed alone ends a line, the tab alone parts fields
    ∷ (joined (λ (b : ℕ). of_lines (b ∷ [])) 0 256, but_for 10 (1 ∷ 0 ∷ []) (λ (b : ℕ). 1 ∷ 1 ∷ b ∷ []))
    ∷ (
      joined (λ (b : ℕ). of_lines (65 ∷ b ∷ 66 ∷ [])) 0 256,
      but_for 10 (2 ∷ 1 ∷ 65 ∷ 1 ∷ 66 ∷ []) (λ (b : ℕ). 1 ∷ 3 ∷ 65 ∷ b ∷ 66 ∷ []),
    )
    ∷ (joined (λ (b : ℕ). of_fields (b ∷ [])) 0 256, but_for 9 (2 ∷ 0 ∷ 0 ∷ []) (λ (b : ℕ). 1 ∷ 1 ∷ b ∷ []))
    ∷ (
      joined (λ (b : ℕ). of_fields (65 ∷ b ∷ 66 ∷ [])) 0 256,
      but_for 9 (2 ∷ 1 ∷ 65 ∷ 1 ∷ 66 ∷ []) (λ (b : ℕ). 1 ∷ 3 ∷ 65 ∷ b ∷ 66 ∷ []),
    )
    -- a line and a field of 300 bytes; 300 line feeds and 300 tabs
    ∷ (of_lines (replicate 300 65) ++ of_fields (replicate 300 65), 1 ∷ 300 ∷ (replicate 300 65 ++ (1 ∷ 300 ∷ replicate 300 65)))
    ∷ (of_lines (replicate 300 10) ++ of_fields (replicate 300 9), 300 ∷ (replicate 300 0 ++ (301 ∷ replicate 301 0)))
    -- a byte put before the first piece; before none, it is one
    ∷ (pieces_row (attached 7 []), 1 ∷ 1 ∷ 7 ∷ [])
    ∷ (pieces_row (attached 7 ([] ∷ (8 ∷ []) ∷ [])), 2 ∷ 1 ∷ 7 ∷ 1 ∷ 8 ∷ [])
    ∷ (pieces_row (attached 7 ((5 ∷ 6 ∷ []) ∷ [] ∷ [])), 2 ∷ 3 ∷ 7 ∷ 5 ∷ 6 ∷ 0 ∷ [])
    ∷ []
