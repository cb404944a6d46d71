-- Readings of the vectors' codes, all 256 of them: which way each goes, and how far.
-- Assumes nothing.
use Rattle.std.specs.Prelude.{ℕ, List, [], ◌∷◌, ◌++◌, replicate}
use Rattle.basis.specs.Reading.{Reading, each, told}
use Rattle.motion.specs.Vector.{given_x, given_y, length_x, length_y, minus_x, minus_y, line_of}
use Rattle.motion.specs.Tables.Positions.{again}

-- something of all 256 codes
unfoldable pub codes : (ℕ → ℕ) → List ℕ
codes f = each f 0 256

-- low three bits: 1 (+,+), 3 (−,+), 5 (+,−), 7 (−,−) in X, Y; 0 +X only, 6 −X only, 2 +Y only, 4 −Y only
unfoldable pub signs : List Reading
signs =
    (codes (λ c. told (minus_x c)), again 32 (0 ∷ 0 ∷ 0 ∷ 1 ∷ 0 ∷ 0 ∷ 1 ∷ 1 ∷ []))
    ∷ (codes (λ c. told (minus_y c)), again 32 (0 ∷ 0 ∷ 0 ∷ 0 ∷ 1 ∷ 1 ∷ 0 ∷ 1 ∷ []))
    ∷ []

-- by DELTAX and DELTAY where bit 3 is low, by the larger where it is high; short vectors by bits 6 and 5, and by bits 4 and 3
unfoldable pub given : ℕ → ℕ → ℕ → List Reading
given dx dy larger = (
  codes (λ c. given_x c dx dy),
  again 8 (replicate 8 dx ++ replicate 8 larger) ++ (replicate 32 0 ++ (replicate 32 1 ++ (replicate 32 2 ++ replicate 32 3))),
)
    ∷ (
      codes (λ c. given_y c dx dy),
      again 8 (replicate 8 dy ++ replicate 8 larger)
          ++ again 4 (replicate 8 0 ++ (replicate 8 1 ++ (replicate 8 2 ++ replicate 8 3))),
    )
    ∷ []

-- in directions 2 and 4 X counts as 0, in 0 and 6 Y does
unfoldable pub fan_x : ℕ → List ℕ
fan_x n = n ∷ n ∷ 0 ∷ n ∷ 0 ∷ n ∷ n ∷ n ∷ []

unfoldable pub fan_y : ℕ → List ℕ
fan_y n = 0 ∷ n ∷ n ∷ n ∷ n ∷ n ∷ 0 ∷ n ∷ []

unfoldable pub lengths : ℕ → ℕ → ℕ → List Reading
lengths dx dy larger = (
  codes (λ c. length_x c dx dy),
  again 8 (fan_x dx ++ fan_x larger) ++ (again 4 (fan_x 0) ++ (again 4 (fan_x 1) ++ (again 4 (fan_x 2) ++ again 4 (fan_x 3)))),
)
    ∷ (
      codes (λ c. length_y c dx dy),
      again 8 (fan_y dy ++ fan_y larger) ++ again 4 (fan_y 0 ++ (fan_y 1 ++ (fan_y 2 ++ fan_y 3))),
    )
    ∷ []

-- M in the eight directions: X at least as long as Y; Y longer than X
unfoldable pub long_wide : ℕ → ℕ → List ℕ
long_wide x y = x ∷ x ∷ y ∷ x ∷ y ∷ x ∷ x ∷ x ∷ []

unfoldable pub long_tall : ℕ → ℕ → List ℕ
long_tall x y = x ∷ y ∷ y ∷ y ∷ y ∷ y ∷ x ∷ y ∷ []

-- m, the smaller of both: none along one axis
unfoldable pub shortest : ℕ → List ℕ
shortest m = 0 ∷ m ∷ 0 ∷ m ∷ 0 ∷ m ∷ 0 ∷ m ∷ []

-- Y is the longer axis: only along Y, where it has a length; in all but 0 and 6
unfoldable pub steep_wide : List ℕ
steep_wide = 0 ∷ 0 ∷ 1 ∷ 0 ∷ 1 ∷ 0 ∷ 0 ∷ 0 ∷ []

unfoldable pub steep_tall : List ℕ
steep_tall = 0 ∷ 1 ∷ 1 ∷ 1 ∷ 1 ∷ 1 ∷ 0 ∷ 1 ∷ []

unfoldable pub longs : ℕ → ℕ → List ℕ
longs dx dy = codes (λ c. (line_of c dx dy).long)

unfoldable pub shorts : ℕ → ℕ → List ℕ
shorts dx dy = codes (λ c. (line_of c dx dy).short)

unfoldable pub steeps : ℕ → ℕ → List ℕ
steeps dx dy = codes (λ c. told (line_of c dx dy).steep)

-- short vectors: X 0, 1, 2, 3 and, within it, Y 0, 1, 2, 3
unfoldable pub short_longs : List ℕ
short_longs =
    long_wide 0 0 ++ long_tall 0 1 ++ long_tall 0 2 ++ long_tall 0 3
    ++ long_wide 1 0 ++ long_wide 1 1 ++ long_tall 1 2 ++ long_tall 1 3
    ++ long_wide 2 0 ++ long_wide 2 1 ++ long_wide 2 2 ++ long_tall 2 3
    ++ long_wide 3 0 ++ long_wide 3 1 ++ long_wide 3 2 ++ long_wide 3 3

unfoldable pub short_shorts : List ℕ
short_shorts =
    again 4 (shortest 0)
    ++ shortest 0 ++ again 3 (shortest 1)
    ++ shortest 0 ++ shortest 1 ++ again 2 (shortest 2)
    ++ shortest 0 ++ shortest 1 ++ shortest 2 ++ shortest 3

unfoldable pub short_steeps : List ℕ
short_steeps =
    replicate 8 0 ++ again 3 steep_tall
    ++ replicate 8 0 ++ steep_wide ++ again 2 steep_tall
    ++ replicate 8 0 ++ again 2 steep_wide ++ steep_tall
    ++ replicate 8 0 ++ again 3 steep_wide

-- M and m, and which axis is the longer; signs by the code alone
unfoldable pub lines : List Reading
lines =
    (longs 5 2, again 8 (long_wide 5 2 ++ long_wide 5 5) ++ short_longs)
    ∷ (longs 2 5, again 8 (long_tall 2 5 ++ long_wide 5 5) ++ short_longs)
    ∷ (longs 0 200, again 8 (long_tall 0 200 ++ long_wide 200 200) ++ short_longs)
    ∷ (longs 255 128, again 8 (long_wide 255 128 ++ long_wide 255 255) ++ short_longs)
    ∷ (shorts 5 2, again 8 (shortest 2 ++ shortest 5) ++ short_shorts)
    ∷ (shorts 2 5, again 8 (shortest 2 ++ shortest 5) ++ short_shorts)
    ∷ (shorts 200 0, again 8 (shortest 0 ++ shortest 200) ++ short_shorts)
    ∷ (shorts 200 255, again 8 (shortest 200 ++ shortest 255) ++ short_shorts)
    ∷ (shorts 128 127, again 8 (shortest 127 ++ shortest 128) ++ short_shorts)
    ∷ (steeps 5 2, again 16 steep_wide ++ short_steeps)
    ∷ (steeps 2 5, again 8 (steep_tall ++ steep_wide) ++ short_steeps)
    ∷ (steeps 7 7, again 16 steep_wide ++ short_steeps)
    ∷ (steeps 0 200, again 8 (steep_tall ++ steep_wide) ++ short_steeps)
    ∷ (steeps 200 0, again 8 (replicate 8 0 ++ steep_wide) ++ short_steeps)
    ∷ (steeps 127 128, again 8 (steep_tall ++ steep_wide) ++ short_steeps)
    ∷ (codes (λ c. told (line_of c 5 2).left), again 32 (0 ∷ 0 ∷ 0 ∷ 1 ∷ 0 ∷ 0 ∷ 1 ∷ 1 ∷ []))
    ∷ (codes (λ c. told (line_of c 5 2).down), again 32 (0 ∷ 0 ∷ 0 ∷ 0 ∷ 1 ∷ 1 ∷ 0 ∷ 1 ∷ []))
    ∷ []

unfoldable pub vector_codes : List Reading
vector_codes =
    signs
    ++ given 5 2 5
    ++ given 2 5 5
    ++ given 0 200 200
    ++ given 255 128 255
    ++ given 7 7 7
    ++ lengths 5 2 5
    ++ lengths 2 5 5
    ++ lengths 0 200 200
    ++ lengths 255 0 255
    ++ lines
