-- Readings of runs: where a figure starts, stands and rests, and its dots in a window of 16 by 8.
-- Assumes nothing.
use Rattle.std.specs.Prelude.{ℕ, ◌%◌, Bool, true, false, List, [], ◌∷◌, ◌++◌}
use Rattle.basis.specs.Reading.{Reading, joined}
use Rattle.motion.specs.declared.character.Lie.{Lie}
use Rattle.motion.specs.Position.{spot}
use Rattle.motion.specs.Tables.Characters.{straight, upwards, slanted, slanted_up}
use Rattle.drawing.specs.declared.tip.Tip.{Tip}
use Rattle.drawing.specs.Figure.{Figure, Pause, Nothing}
use Rattle.drawing.specs.Run.{start_of, place_of, rest_of, mark, dot_of, dots_from}
use Rattle.drawing.specs.Tables.Figures.{stroke, cells, pair, pairs, glyph}

-- a flat vector to (+,+), a steep one to (−,−), a body of 2 by 3, the same turned, tilted and both
unfoldable pub flat : Figure
flat = stroke 0 5 2 false false false

unfoldable pub steep : Figure
steep = stroke 0 5 2 true true true

unfoldable pub body : Figure
body = cells straight 1 1 2 3

unfoldable pub turned : Figure
turned = cells upwards 1 1 2 3

unfoldable pub tilted : Figure
tilted = cells slanted 1 1 2 3

unfoldable pub tilted_up : Figure
tilted_up = cells slanted_up 1 1 2 3

unfoldable pub standing : List Reading
standing =
    -- cycle i lies at its place from the start; where that is known, so is the start
    (pairs (place_of flat (spot 4094 50)) 6, 4094 ∷ 50 ∷ 4095 ∷ 50 ∷ 0 ∷ 51 ∷ 1 ∷ 51 ∷ 2 ∷ 52 ∷ 3 ∷ 52 ∷ [])
    ∷ (pairs (place_of steep (spot 10 3)) 6, 10 ∷ 3 ∷ 10 ∷ 2 ∷ 9 ∷ 1 ∷ 9 ∷ 0 ∷ 8 ∷ 4095 ∷ 8 ∷ 4094 ∷ [])
    ∷ (pairs (place_of body (spot 100 4095)) 6, 100 ∷ 4095 ∷ 100 ∷ 0 ∷ 100 ∷ 1 ∷ 101 ∷ 4095 ∷ 101 ∷ 0 ∷ 101 ∷ 1 ∷ [])
    ∷ (pairs (place_of turned (spot 1 50)) 6, 1 ∷ 50 ∷ 0 ∷ 50 ∷ 4095 ∷ 50 ∷ 1 ∷ 51 ∷ 0 ∷ 51 ∷ 4095 ∷ 51 ∷ [])
    ∷ (pairs (place_of tilted (spot 4094 4095)) 6, 4094 ∷ 4095 ∷ 4095 ∷ 0 ∷ 0 ∷ 1 ∷ 4095 ∷ 4095 ∷ 0 ∷ 0 ∷ 1 ∷ 1 ∷ [])
    ∷ (pairs (place_of tilted_up (spot 1 4094)) 6, 1 ∷ 4094 ∷ 0 ∷ 4095 ∷ 4095 ∷ 0 ∷ 1 ∷ 4095 ∷ 0 ∷ 0 ∷ 4095 ∷ 1 ∷ [])
    ∷ (pair (place_of Pause (spot 7 9) 0) ++ pair (place_of Nothing (spot 7 9) 0), 7 ∷ 9 ∷ 7 ∷ 9 ∷ [])
    ∷ (pair (start_of flat 0 (spot 7 9)) ++ pair (start_of flat 3 (spot 1 51)), 7 ∷ 9 ∷ 4094 ∷ 50 ∷ [])
    ∷ (pair (start_of steep 0 (spot 7 9)) ++ pair (start_of steep 4 (spot 8 4095)), 7 ∷ 9 ∷ 10 ∷ 3 ∷ [])
    ∷ (pair (start_of body 5 (spot 101 1)) ++ pair (start_of body 2 (spot 100 1)), 100 ∷ 4095 ∷ 100 ∷ 4095 ∷ [])
    ∷ (pair (start_of turned 5 (spot 4095 51)) ++ pair (start_of turned 0 (spot 1 50)), 1 ∷ 50 ∷ 1 ∷ 50 ∷ [])
    ∷ (pair (start_of tilted 5 (spot 1 1)) ++ pair (start_of tilted 2 (spot 0 1)), 4094 ∷ 4095 ∷ 4094 ∷ 4095 ∷ [])
    ∷ (pair (start_of tilted_up 5 (spot 4095 1)) ++ pair (start_of tilted_up 2 (spot 4095 0)), 1 ∷ 4094 ∷ 1 ∷ 4094 ∷ [])
    ∷ (pair (start_of Pause 0 (spot 7 9)) ++ pair (start_of Nothing 0 (spot 7 9)), 7 ∷ 9 ∷ 7 ∷ 9 ∷ [])
    -- between cycles on the place of the next; at the end a vector on its last dot
    ∷ (
      pairs (rest_of flat (spot 4094 50)) 8,
      4094 ∷ 50 ∷ 4095 ∷ 50 ∷ 0 ∷ 51 ∷ 1 ∷ 51 ∷ 2 ∷ 52 ∷ 3 ∷ 52 ∷ 3 ∷ 52 ∷ 3 ∷ 52 ∷ [],
    )
    ∷ (pairs (rest_of steep (spot 10 3)) 8, 10 ∷ 3 ∷ 10 ∷ 2 ∷ 9 ∷ 1 ∷ 9 ∷ 0 ∷ 8 ∷ 4095 ∷ 8 ∷ 4094 ∷ 8 ∷ 4094 ∷ 8 ∷ 4094 ∷ [])
    -- a character past its columns and Y restored; turned, X restored
    ∷ (
      pairs (rest_of body (spot 100 4095)) 8,
      100 ∷ 4095 ∷ 100 ∷ 0 ∷ 100 ∷ 1 ∷ 101 ∷ 4095 ∷ 101 ∷ 0 ∷ 101 ∷ 1 ∷ 102 ∷ 4095 ∷ 102 ∷ 4095 ∷ [],
    )
    ∷ (
      pairs (rest_of turned (spot 1 50)) 8,
      1 ∷ 50 ∷ 0 ∷ 50 ∷ 4095 ∷ 50 ∷ 1 ∷ 51 ∷ 0 ∷ 51 ∷ 4095 ∷ 51 ∷ 1 ∷ 52 ∷ 1 ∷ 52 ∷ [],
    )
    -- tilted the same, though the last cycle stood past it or beside it
    ∷ (
      pairs (rest_of tilted (spot 4094 4095)) 8,
      4094 ∷ 4095 ∷ 4095 ∷ 0 ∷ 0 ∷ 1 ∷ 4095 ∷ 4095 ∷ 0 ∷ 0 ∷ 1 ∷ 1 ∷ 0 ∷ 4095 ∷ 0 ∷ 4095 ∷ [],
    )
    ∷ (
      pairs (rest_of tilted_up (spot 1 4094)) 8,
      1 ∷ 4094 ∷ 0 ∷ 4095 ∷ 4095 ∷ 0 ∷ 1 ∷ 4095 ∷ 0 ∷ 0 ∷ 4095 ∷ 1 ∷ 1 ∷ 0 ∷ 1 ∷ 0 ∷ [],
    )
    ∷ (pairs (rest_of Pause (spot 7 9)) 3 ++ pairs (rest_of Nothing (spot 7 9)) 3, joined (λ k. 7 ∷ 9 ∷ []) 0 6)
    ∷ []

-- the largest character, P and Q 16, and the same turned, from (300, 200): cycles 5,000 and 12,287, and past the last
unfoldable pub large : Lie → Figure
large lie = cells lie 16 16 96 128

unfoldable pub standing_large : List Reading
standing_large =
    (pair (place_of (large straight) (spot 300 200) 5000) ++ pair (place_of (large straight) (spot 300 200) 12287), 339 ∷ 208 ∷ 395 ∷ 327 ∷ [])
    ∷ (pair (place_of (large upwards) (spot 300 200) 5000) ++ pair (place_of (large upwards) (spot 300 200) 12287), 292 ∷ 239 ∷ 173 ∷ 295 ∷ [])
    ∷ (pair (start_of (large straight) 5000 (spot 339 208)) ++ pair (start_of (large straight) 12287 (spot 395 327)), 300 ∷ 200 ∷ 300 ∷ 200 ∷ [])
    ∷ (pair (start_of (large upwards) 5000 (spot 292 239)) ++ pair (start_of (large upwards) 12287 (spot 173 295)), 300 ∷ 200 ∷ 300 ∷ 200 ∷ [])
    ∷ (
      pair (rest_of (large straight) (spot 300 200) 5000) ++ pair (rest_of (large straight) (spot 300 200) 12287)
          ++ pair (rest_of (large straight) (spot 300 200) 12288) ++ pair (rest_of (large straight) (spot 300 200) 65535),
      339 ∷ 208 ∷ 395 ∷ 327 ∷ 396 ∷ 200 ∷ 396 ∷ 200 ∷ [],
    )
    ∷ (
      pair (rest_of (large upwards) (spot 300 200) 5000) ++ pair (rest_of (large upwards) (spot 300 200) 12287)
          ++ pair (rest_of (large upwards) (spot 300 200) 12288) ++ pair (rest_of (large upwards) (spot 300 200) 65535),
      292 ∷ 239 ∷ 173 ∷ 295 ∷ 300 ∷ 296 ∷ 300 ∷ 296 ∷ [],
    )
    ∷ []

unfoldable pub slanted_large : List Reading
slanted_large =
    (pair (place_of (large slanted) (spot 300 200) 5000) ++ pair (place_of (large slanted) (spot 300 200) 12287), 347 ∷ 208 ∷ 522 ∷ 327 ∷ [])
    ∷ (pair (place_of (large slanted_up) (spot 300 200) 5000) ++ pair (place_of (large slanted_up) (spot 300 200) 12287), 292 ∷ 247 ∷ 173 ∷ 422 ∷ [])
    ∷ (pair (start_of (large slanted) 5000 (spot 347 208)) ++ pair (start_of (large slanted_up) 12287 (spot 173 422)), 300 ∷ 200 ∷ 300 ∷ 200 ∷ [])
    ∷ (
      pair (rest_of (large slanted) (spot 300 200) 12287) ++ pair (rest_of (large slanted) (spot 300 200) 12288)
          ++ pair (rest_of (large slanted_up) (spot 300 200) 12287) ++ pair (rest_of (large slanted_up) (spot 300 200) 12288),
      522 ∷ 327 ∷ 396 ∷ 200 ∷ 173 ∷ 422 ∷ 300 ∷ 296 ∷ [],
    )
    ∷ []

-- a tip over the window: down or up, lighting or darkening, on a cyclic screen or not
unfoldable pub tip : Bool → Bool → Bool → Tip
tip down lit cyclic = record { window = record { width = 16; height = 8; cyclic = cyclic }; down = down; lit = lit }

unfoldable pub pen : Tip
pen = tip true true false

unfoldable pub cyclic_pen : Tip
cyclic_pen = tip true true true

-- a cycle that is on writes its dot with the tip down, pen or eraser; no other, and none outside
unfoldable pub marks : List Reading
marks =
    (mark pen true 3 2 ++ mark (tip true false false) true 3 2, 35 ∷ 35 ∷ [])
    ∷ (mark pen false 3 2 ++ mark (tip false true false) true 3 2 ++ mark (tip false false true) true 3 2 ++ mark (tip false true false) false 3 2, [])
    ∷ (mark pen true 15 7 ++ mark pen true 16 7 ++ mark pen true 15 8 ++ mark pen true 4095 0, 127 ∷ [])
    ∷ (mark cyclic_pen true 16 7 ++ mark cyclic_pen true 15 8 ++ mark cyclic_pen true 4095 4095, 112 ∷ 15 ∷ 127 ∷ [])
    ∷ (mark (tip true false true) true 3 2 ++ mark (tip true false true) true 19 10 ++ mark (tip true false true) false 3 2, 35 ∷ 35 ∷ [])
    ∷ []

-- all dots of a figure's first n cycles from (x, y)
unfoldable pub drawn : Tip → Figure → ℕ → ℕ → ℕ → List ℕ
drawn t f x y n = dots_from t f glyph (spot x y) 0 n

unfoldable pub drawings : List Reading
drawings =
    -- 5 and 2: (0,0) (1,0) (2,1) (3,1) (4,2) (5,2), and nothing by cycles that are not used
    (drawn pen flat 0 0 6, 0 ∷ 1 ∷ 18 ∷ 19 ∷ 36 ∷ 37 ∷ [])
    ∷ (drawn pen flat 0 0 0, [])
    ∷ (drawn pen flat 0 0 3, 0 ∷ 1 ∷ 18 ∷ [])
    ∷ (dots_from pen flat glyph (spot 0 0) 3 2, 19 ∷ 36 ∷ [])
    ∷ (dots_from pen flat glyph (spot 0 0) 5 1, 37 ∷ [])
    -- the closed form, past the end too: (6,2) and (7,3)
    ∷ (dots_from pen flat glyph (spot 0 0) 5 3, 37 ∷ 38 ∷ 55 ∷ [])
    -- off the window's corner; cyclic it comes in again
    ∷ (drawn pen flat 14 7 6, 126 ∷ 127 ∷ [])
    ∷ (drawn cyclic_pen flat 14 7 6, 126 ∷ 127 ∷ 0 ∷ 1 ∷ 18 ∷ 19 ∷ [])
    ∷ (drawn pen steep 1 3 6, 49 ∷ 33 ∷ 16 ∷ 0 ∷ [])
    ∷ (drawn cyclic_pen steep 1 3 6, 49 ∷ 33 ∷ 16 ∷ 0 ∷ 127 ∷ 111 ∷ [])
    -- it comes in from outside
    ∷ (drawn pen flat 4094 0 6, 16 ∷ 17 ∷ 34 ∷ 35 ∷ [])
    -- the line type counts from dot 0 of the vector, also when its cycles come in portions
    ∷ (drawn pen (stroke 1 5 2 false false false) 0 0 6, 0 ∷ 1 ∷ 36 ∷ 37 ∷ [])
    ∷ (dots_from pen (stroke 1 5 2 false false false) glyph (spot 0 0) 1 4, 1 ∷ 36 ∷ [])
    -- a character's dots by its glyph, column after column; turned
    ∷ (drawn pen (cells straight 1 1 6 8) 1 0 16, 1 ∷ 18 ∷ 114 ∷ [])
    ∷ (drawn pen (cells straight 1 1 6 8) 12 0 48, 12 ∷ 29 ∷ 125 ∷ 46 ∷ 78 ∷ 94 ∷ 110 ∷ 63 ∷ 111 ∷ 127 ∷ [])
    ∷ (drawn pen (cells upwards 1 1 6 8) 9 0 48, 9 ∷ 24 ∷ 18 ∷ 39 ∷ 37 ∷ 36 ∷ 35 ∷ 54 ∷ 51 ∷ 50 ∷ 72 ∷ 71 ∷ 70 ∷ 69 ∷ [])
    ∷ (dots_from pen (cells straight 1 1 6 8) glyph (spot 1 0) 9 6, 18 ∷ [])
    -- nothing with the tip up, by one cycle without a dot, by no command; the eraser's dots are the pen's
    ∷ (drawn (tip false true false) flat 0 0 6 ++ drawn (tip false false true) (cells straight 1 1 6 8) 0 0 48, [])
    ∷ (drawn pen Pause 0 0 1 ++ drawn pen Nothing 0 0 1, [])
    ∷ (drawn (tip true false false) flat 0 0 6, 0 ∷ 1 ∷ 18 ∷ 19 ∷ 36 ∷ 37 ∷ [])
    ∷ (drawn (tip true false false) (stroke 1 5 2 false false false) 0 0 6, 0 ∷ 1 ∷ 36 ∷ 37 ∷ [])
    ∷ (drawn (tip true false false) (cells straight 1 1 6 8) 1 0 16, 1 ∷ 18 ∷ 114 ∷ [])
    ∷ (drawn (tip false true false) (cells upwards 1 1 6 8) 9 0 48 ++ drawn (tip false true true) (stroke 1 5 2 false false false) 0 0 6, [])
    -- a character on a cyclic screen comes in again
    ∷ (drawn cyclic_pen (cells straight 1 1 6 8) 17 8 16, 1 ∷ 18 ∷ 114 ∷ [])
    -- a dashed vector rests on its last dot, though that is off
    ∷ (pair (rest_of (stroke 1 3 0 false false false) (spot 7 9) 4), 10 ∷ 9 ∷ [])
    -- all 300 dots of a run
    ∷ (dots_from cyclic_pen (stroke 0 299 0 false false false) glyph (spot 0 0) 0 300, joined (λ i. (i % 16) ∷ []) 0 300)
    -- all 5,000 cycles of a run that passes the window twice
    ∷ (
      dots_from pen (stroke 0 5000 0 false false false) glyph (spot 3692 0) 0 5000,
      joined (λ i. i ∷ []) 0 16 ++ joined (λ i. i ∷ []) 0 16,
    )
    -- cycles 4,096, 4,128 and 8,208 of the largest character: columns 2, 2 and 4, rows 0, 2 and 1
    ∷ (
      dot_of cyclic_pen (large straight) glyph (spot 0 0) 4096 ++ dot_of cyclic_pen (large straight) glyph (spot 5 0) 4128
          ++ dot_of cyclic_pen (large straight) glyph (spot 0 3) 8208,
      5 ∷ 48 ∷ [],
    )
    ∷ (dot_of pen flat glyph (spot 3 1) 2 ++ dot_of pen flat glyph (spot 3 7) 2 ++ dot_of pen Pause glyph (spot 3 1) 0, 37 ∷ [])
    ∷ []

-- a character's dots while tilt is high: the same cycles write, one further with each dot up
unfoldable pub slant_drawings : List Reading
slant_drawings =
    (drawn pen (cells slanted 1 1 6 8) 1 0 48, 1 ∷ 19 ∷ 121 ∷ 37 ∷ 71 ∷ 88 ∷ 105 ∷ 55 ∷ 106 ∷ 123 ∷ 22 ∷ 39 ∷ 56 ∷ 73 ∷ [])
    -- part of it, from its start and from within
    ∷ (drawn pen (cells slanted 1 1 6 8) 1 0 16, 1 ∷ 19 ∷ 121 ∷ [])
    ∷ (dots_from pen (cells slanted 1 1 6 8) glyph (spot 1 0) 9 6, 19 ∷ [])
    -- at the right edge; on a cyclic screen it comes in again
    ∷ (drawn pen (cells slanted 1 1 6 8) 12 0 48, 12 ∷ 30 ∷ [])
    ∷ (drawn cyclic_pen (cells slanted 1 1 6 8) 12 0 48, 12 ∷ 30 ∷ 116 ∷ 32 ∷ 66 ∷ 83 ∷ 100 ∷ 50 ∷ 101 ∷ 118 ∷ 17 ∷ 34 ∷ 51 ∷ 68 ∷ [])
    -- turned too: each dot to the left is one further up
    ∷ (drawn pen (cells slanted_up 1 1 6 8) 9 0 48, 9 ∷ 40 ∷ 71 ∷ 101 ∷ 116 ∷ 102 ∷ 88 ∷ 103 ∷ 118 ∷ [])
    ∷ (drawn cyclic_pen (cells slanted_up 1 1 6 8) 9 0 48, 9 ∷ 40 ∷ 2 ∷ 71 ∷ 101 ∷ 116 ∷ 3 ∷ 102 ∷ 19 ∷ 34 ∷ 88 ∷ 103 ∷ 118 ∷ 5 ∷ [])
    -- P 2, and Q 2: of two lines of one row of the glyph the upper one is further
    ∷ (
      drawn pen (cells slanted 2 1 12 8) 0 0 48,
      0 ∷ 1 ∷ 19 ∷ 121 ∷ 20 ∷ 122 ∷ 38 ∷ 72 ∷ 89 ∷ 106 ∷ 39 ∷ 73 ∷ 90 ∷ 107 ∷ [],
    )
    ∷ (drawn pen (cells slanted 1 2 6 16) 0 0 96, 0 ∷ 17 ∷ 35 ∷ 52 ∷ 70 ∷ 87 ∷ 105 ∷ 122 ∷ 38 ∷ 55 ∷ 72 ∷ 89 ∷ 106 ∷ 123 ∷ [])
    ∷ (drawn pen (cells slanted_up 2 1 12 8) 8 0 96, 8 ∷ 24 ∷ 55 ∷ 71 ∷ 102 ∷ 118 ∷ [])
    ∷ (drawn pen (cells slanted_up 1 2 6 16) 15 0 96, 15 ∷ 30 ∷ 61 ∷ 76 ∷ 107 ∷ 122 ∷ 109 ∷ 124 ∷ [])
    -- around 4,096
    ∷ (drawn pen (cells slanted 1 1 6 8) 4094 4095 48, 0 ∷ 102 ∷ 18 ∷ 52 ∷ 69 ∷ 86 ∷ 36 ∷ 87 ∷ 104 ∷ 3 ∷ 20 ∷ 37 ∷ 54 ∷ [])
    ∷ (drawn pen (cells slanted_up 1 1 6 8) 2 4094 48, 1 ∷ 32 ∷ 49 ∷ 64 ∷ [])
    -- nothing with the tip up; the eraser's dots are the pen's
    ∷ (drawn (tip false true false) (cells slanted 1 1 6 8) 1 0 48, [])
    ∷ (drawn (tip true false false) (cells slanted_up 1 2 6 16) 15 0 96, 15 ∷ 30 ∷ 61 ∷ 76 ∷ 107 ∷ 122 ∷ 109 ∷ 124 ∷ [])
    ∷ []
