-- The example of document 01: W 1 3, W 5 5, W 7 2, W 0 11, T 9, R 0. 9 is the tab, 10 the line feed.
-- Assumes nothing.
use Rattle.std.specs.Prelude.{ℕ, List, [], ◌∷◌, ◌++◌, replicate, take}
use Rattle.basis.specs.Reading.{Reading}
use Rattle.panel.specs.Panel.{dot_lines, panel}

unfoldable pub example : List ℕ
example =
    87 ∷ 9 ∷ 49 ∷ 9 ∷ 51 ∷ 10
    ∷ 87 ∷ 9 ∷ 53 ∷ 9 ∷ 53 ∷ 10
    ∷ 87 ∷ 9 ∷ 55 ∷ 9 ∷ 50 ∷ 10
    ∷ 87 ∷ 9 ∷ 48 ∷ 9 ∷ 49 ∷ 49 ∷ 10
    ∷ 84 ∷ 9 ∷ 57 ∷ 10
    ∷ 82 ∷ 9 ∷ 48 ∷ 10
    ∷ []

-- G 9366, T 6, R 0 05
unfoldable pub example_answers : List ℕ
example_answers =
    71 ∷ 9 ∷ 57 ∷ 51 ∷ 54 ∷ 54 ∷ 10
    ∷ 84 ∷ 9 ∷ 54 ∷ 10
    ∷ 82 ∷ 9 ∷ 48 ∷ 9 ∷ 48 ∷ 53 ∷ 10
    ∷ []

-- its picture: dots 0 and 1 of line 0, 2 and 3 of line 1, 4 and 5 of line 2
unfoldable pub example_picture : List ℕ
example_picture = 0x03 ∷ (replicate 63 0 ++ (0x0C ∷ (replicate 63 0 ++ (0x30 ∷ replicate 16255 0))))

-- P 0 0, P 1 0, P 2 1, P 3 1, P 4 2, P 5 2
unfoldable pub example_dots : List ℕ
example_dots =
    80 ∷ 9 ∷ 48 ∷ 9 ∷ 48 ∷ 10
    ∷ 80 ∷ 9 ∷ 49 ∷ 9 ∷ 48 ∷ 10
    ∷ 80 ∷ 9 ∷ 50 ∷ 9 ∷ 49 ∷ 10
    ∷ 80 ∷ 9 ∷ 51 ∷ 9 ∷ 49 ∷ 10
    ∷ 80 ∷ 9 ∷ 52 ∷ 9 ∷ 50 ∷ 10
    ∷ 80 ∷ 9 ∷ 53 ∷ 9 ∷ 50 ∷ 10
    ∷ []

unfoldable pub examples : List Reading
examples =
    -- what stands before the dots, with the last line feed and without it, and no line
    (take 24 (panel example), example_answers ++ (80 ∷ 9 ∷ 48 ∷ 9 ∷ 48 ∷ 10 ∷ []))
    ∷ (take 18 (panel (take 32 example)), example_answers)
    ∷ (take 7 (panel []), 71 ∷ 9 ∷ 57 ∷ 51 ∷ 54 ∷ 54 ∷ 10 ∷ [])
    -- 65,536 bytes are still played
    ∷ (take 14 (panel (replicate 65536 10)), 71 ∷ 9 ∷ 57 ∷ 51 ∷ 54 ∷ 54 ∷ 10 ∷ 69 ∷ 9 ∷ 49 ∷ 9 ∷ 50 ∷ 48 ∷ 10 ∷ [])
    -- the dots of the first four lines of dots
    ∷ (dot_lines example_picture 0 2048, example_dots)
    ∷ []
