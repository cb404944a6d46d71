-- The same dots in a file with other white space: any amount of it between any two parts, comments among it.
-- Assumes nothing.
use Rattle.std.specs.Prelude.{ℕ, zero, suc, Bool, true, false, not, ◌&&◌, ◌||◌, List, [], ◌∷◌, ◌++◌, eqb, ltb, length, replicate}
use Rattle.text.specs.Pieces.{line_feed}
use Rattle.text.specs.Numbers.{decimal}
use Rattle.picture.specs.Screen.{dot_number}
use Rattle.pbm.specs.File.{signs}
use Rattle.pbm.specs.Contents.{is_white, hash}

-- white space and whole comments, each from # to its line feed. The flag says whether one has begun
unfoldable pub is_gap : Bool → List ℕ → Bool
is_gap c [] = not c
is_gap true (b ∷ bs) = is_gap (not (eqb b line_feed)) bs
is_gap false (b ∷ bs) = (is_white b && is_gap false bs) || (eqb b hash && is_gap true bs)

unfoldable pub are_gaps : List (List ℕ) → Bool
are_gaps [] = true
are_gaps (g ∷ gs) = is_gap false g && are_gaps gs

-- the white space of a file: behind P1, behind the width and behind the height; how many zeros stand before each number; and what
-- stands before each dot, nothing where the list has ended
pub record Spacing : Type 0 where
  pub first : List ℕ
  pub second : List ℕ
  pub third : List ℕ
  pub width_zeros : ℕ
  pub height_zeros : ℕ
  pub gaps : List (List ℕ)

-- some white space
unfoldable pub parts : List ℕ → Bool
parts g = ltb 0 (length g) && is_gap false g

-- there is some behind P1 and behind each number, and nothing but white space anywhere
unfoldable pub sound : Spacing → Bool
sound s = parts s.first && (parts s.second && (parts s.third && are_gaps s.gaps))

-- signs, a gap before each, and what follows the last
unfoldable pub spread : List (List ℕ) → List ℕ → List ℕ → List ℕ
spread gaps [] tail = tail
spread [] (b ∷ bs) tail = b ∷ spread [] bs tail
spread (g ∷ gs) (b ∷ bs) tail = g ++ (b ∷ spread gs bs tail)

-- the signs of the lowest h lines, the top one first
unfoldable pub line_signs : ℕ → ℕ → List ℕ → List ℕ
line_signs w zero pic = []
line_signs w (suc y) pic = signs pic (dot_number w 0 y) w ++ line_signs w y pic

-- a number with zeros before it
unfoldable pub padded : ℕ → ℕ → List ℕ
padded zeros n = replicate zeros 48 ++ decimal n

-- the picture's file with that white space, and a tail that follows the last dot
unfoldable pub spaced : Spacing → ℕ → ℕ → List ℕ → List ℕ → List ℕ
spaced s w h pic tail =
    80
    ∷ 49
    ∷ (s.first
    ++ (padded s.width_zeros w
    ++ (s.second ++ (padded s.height_zeros h ++ (s.third ++ spread s.gaps (line_signs w h pic) tail)))))
