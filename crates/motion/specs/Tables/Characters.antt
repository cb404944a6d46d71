-- Readings of how a character steps, and of its glyph.
-- Assumes nothing.
use Rattle.std.specs.Prelude.{ℕ, ◌+◌, ◌-◌, ◌*◌, true, false, List, [], ◌∷◌, ◌++◌, map, replicate}
use Rattle.basis.specs.Reading.{Reading, each, joined, told}
use Rattle.motion.specs.declared.character.Body.{Body}
use Rattle.motion.specs.declared.character.Lie.{Lie}
use Rattle.motion.specs.Character.{scale, scale_p, scale_q, character_of, block_of, body_cycles, u_of, v_of, column_of, row_of, lying, along, laid, body_way, body_end}
use Rattle.motion.specs.Glyph.{glyph_of, solid_glyph, inked}
use Rattle.motion.specs.Tables.Positions.{again, pair}

-- the upper half of CSIZE from 0 to F, the lower within it: one of sixteen numbers by the upper half, by the lower
unfoldable pub by_upper : List ℕ → List ℕ
by_upper [] = []
by_upper (n ∷ ns) = replicate 16 n ++ by_upper ns

unfoldable pub by_lower : List ℕ → List ℕ
by_lower ns = again 16 ns

-- 0 means 16
unfoldable pub halves : List ℕ
halves = 16 ∷ 1 ∷ 2 ∷ 3 ∷ 4 ∷ 5 ∷ 6 ∷ 7 ∷ 8 ∷ 9 ∷ 10 ∷ 11 ∷ 12 ∷ 13 ∷ 14 ∷ 15 ∷ []

-- 4, 6 and 8 times that
unfoldable pub fourfold : List ℕ
fourfold = 64 ∷ 4 ∷ 8 ∷ 12 ∷ 16 ∷ 20 ∷ 24 ∷ 28 ∷ 32 ∷ 36 ∷ 40 ∷ 44 ∷ 48 ∷ 52 ∷ 56 ∷ 60 ∷ []

unfoldable pub sixfold : List ℕ
sixfold = 96 ∷ 6 ∷ 12 ∷ 18 ∷ 24 ∷ 30 ∷ 36 ∷ 42 ∷ 48 ∷ 54 ∷ 60 ∷ 66 ∷ 72 ∷ 78 ∷ 84 ∷ 90 ∷ []

unfoldable pub eightfold : List ℕ
eightfold = 128 ∷ 8 ∷ 16 ∷ 24 ∷ 32 ∷ 40 ∷ 48 ∷ 56 ∷ 64 ∷ 72 ∷ 80 ∷ 88 ∷ 96 ∷ 104 ∷ 112 ∷ 120 ∷ []

-- n × P × Q of all 256 sizes
unfoldable pub products : ℕ → List ℕ → List ℕ
products n [] = []
products n (p ∷ ps) = map (λ q. n * p * q) halves ++ products n ps

-- CSIZE gives P (upper) and Q (lower); a character is 6P by 8Q, 48 × P × Q cycles; a block 4P by 4Q, 16 × P × Q
unfoldable pub sizes : List Reading
sizes =
    (each scale 0 16, halves)
    ∷ (each scale_p 0 256, by_upper halves)
    ∷ (each scale_q 0 256, by_lower halves)
    ∷ (each (λ s. (character_of s).p) 0 256, by_upper halves)
    ∷ (each (λ s. (character_of s).q) 0 256, by_lower halves)
    ∷ (each (λ s. (character_of s).columns) 0 256, by_upper sixfold)
    ∷ (each (λ s. (character_of s).rows) 0 256, by_lower eightfold)
    ∷ (each (λ s. body_cycles (character_of s)) 0 256, products 48 halves)
    ∷ (each (λ s. (block_of s).p) 0 256, by_upper halves)
    ∷ (each (λ s. (block_of s).q) 0 256, by_lower halves)
    ∷ (each (λ s. (block_of s).columns) 0 256, by_upper fourfold)
    ∷ (each (λ s. (block_of s).rows) 0 256, by_lower fourfold)
    ∷ (each (λ s. body_cycles (block_of s)) 0 256, products 16 halves)
    ∷ []

unfoldable pub body : ℕ → ℕ → ℕ → ℕ → Body
body p q columns rows = record { p = p; q = q; columns = columns; rows = rows }

-- n of each number from 0 to k − 1
unfoldable pub stairs : ℕ → ℕ → List ℕ
stairs n k = joined (λ m. replicate n m) 0 k

unfoldable pub up_to : ℕ → List ℕ
up_to n = each (λ k. k) 0 n

-- every cycle of a body
unfoldable pub cycles : (ℕ → ℕ) → Body → List ℕ
cycles f b = each f 0 (body_cycles b)

-- a character with P 2 and Q 3, 12 by 24; a block with P 3 and Q 2, 12 by 8
unfoldable pub letter : Body
letter = body 2 3 12 24

unfoldable pub box : Body
box = body 3 2 12 8

-- the largest character, P and Q 16, 96 by 128, of whose 12,288 cycles some are read; P 1 and Q 16; P 16 and Q 1
unfoldable pub largest : Body
largest = body 16 16 96 128

unfoldable pub narrow : Body
narrow = body 1 16 6 128

unfoldable pub broad : Body
broad = body 16 1 96 8

unfoldable pub some : List ℕ
some = 0 ∷ 15 ∷ 16 ∷ 127 ∷ 128 ∷ 255 ∷ 256 ∷ 2047 ∷ 2048 ∷ 4095 ∷ 12287 ∷ []

-- the four ways that letters lie
unfoldable pub straight : Lie
straight = lying false false

unfoldable pub upwards : Lie
upwards = lying true false

unfoldable pub slanted : Lie
slanted = lying false true

unfoldable pub slanted_up : Lie
slanted_up = lying true true

-- what a cycle's place adds to X, to Y
unfoldable pub xs : Lie → Body → ℕ → ℕ
xs lie b i = (body_way lie b i).x

unfoldable pub ys : Lie → Body → ℕ → ℕ
ys lie b i = (body_way lie b i).y

-- u below the columns and, within it, v below the rows; glyph column u / P, row v / Q
unfoldable pub cells : List Reading
cells =
    (cycles (u_of letter) letter, stairs 24 12)
    ∷ (cycles (v_of letter) letter, again 12 (up_to 24))
    ∷ (cycles (column_of letter) letter, stairs 48 6)
    ∷ (cycles (row_of letter) letter, again 12 (stairs 3 8))
    ∷ (cycles (u_of box) box, stairs 8 12)
    ∷ (cycles (v_of box) box, again 12 (up_to 8))
    ∷ (cycles (column_of box) box, stairs 24 4)
    ∷ (cycles (row_of box) box, again 12 (stairs 2 4))
    ∷ (map (u_of largest) some, 0 ∷ 0 ∷ 0 ∷ 0 ∷ 1 ∷ 1 ∷ 2 ∷ 15 ∷ 16 ∷ 31 ∷ 95 ∷ [])
    ∷ (map (v_of largest) some, 0 ∷ 15 ∷ 16 ∷ 127 ∷ 0 ∷ 127 ∷ 0 ∷ 127 ∷ 0 ∷ 127 ∷ 127 ∷ [])
    ∷ (map (column_of largest) some, 0 ∷ 0 ∷ 0 ∷ 0 ∷ 0 ∷ 0 ∷ 0 ∷ 0 ∷ 1 ∷ 1 ∷ 5 ∷ [])
    ∷ (map (row_of largest) some, 0 ∷ 0 ∷ 1 ∷ 7 ∷ 0 ∷ 7 ∷ 0 ∷ 7 ∷ 0 ∷ 7 ∷ 7 ∷ [])
    -- the highest and narrowest, P 1 and Q 16, and the widest and lowest, P 16 and Q 1
    ∷ (cycles (column_of narrow) narrow, stairs 128 6)
    ∷ (cycles (row_of narrow) narrow, again 6 (stairs 16 8))
    ∷ (cycles (column_of broad) broad, stairs 128 6)
    ∷ (cycles (row_of broad) broad, again 96 (up_to 8))
    -- every P and every Q: where each glyph column begins and ends, and each glyph row
    ∷ (
      joined (λ p. joined (λ c. column_of (body p 1 (6 * p) 8) (8 * p * c) ∷ column_of (body p 1 (6 * p) 8) (8 * (p * c + p - 1)) ∷ []) 0 6) 1 16,
      again 16 (stairs 2 6),
    )
    ∷ (
      joined (λ q. joined (λ r. row_of (body 1 q 6 (8 * q)) (q * r) ∷ row_of (body 1 q 6 (8 * q)) (q * r + q - 1) ∷ []) 0 8) 1 16,
      again 16 (stairs 2 8),
    )
    -- by the body's own numbers
    ∷ (body_cycles (body 2 3 5 7) ∷ u_of (body 2 3 5 7) 34 ∷ v_of (body 2 3 5 7) 34 ∷ [], 35 ∷ 4 ∷ 6 ∷ [])
    ∷ (column_of (body 2 3 5 7) 34 ∷ row_of (body 2 3 5 7) 34 ∷ row_of (body 2 3 5 7) 30 ∷ [], 2 ∷ 2 ∷ 0 ∷ [])
    ∷ []

-- n numbers from 4,096 down
unfoldable pub down_to : ℕ → List ℕ
down_to n = each (λ k. 4096 - k) 0 n

-- the place is (X + u, Y + v); turned, (X − v, Y + u); at the end past the columns, along X or, turned, along Y
unfoldable pub cell_ways : List Reading
cell_ways =
    (cycles (xs straight letter) letter, stairs 24 12)
    ∷ (cycles (ys straight letter) letter, again 12 (up_to 24))
    ∷ (cycles (xs upwards letter) letter, again 12 (down_to 24))
    ∷ (cycles (ys upwards letter) letter, stairs 24 12)
    ∷ (pair (body_end straight letter) ++ pair (body_end upwards letter), 12 ∷ 0 ∷ 0 ∷ 12 ∷ [])
    ∷ (pair (body_end straight box) ++ pair (body_end upwards box), 12 ∷ 0 ∷ 0 ∷ 12 ∷ [])
    -- of one as high as it is wide: a block with P and Q 1
    ∷ (cycles (xs straight (body 1 1 4 4)) (body 1 1 4 4) ++ cycles (ys straight (body 1 1 4 4)) (body 1 1 4 4), stairs 4 4 ++ again 4 (up_to 4))
    ∷ (cycles (xs upwards (body 1 1 4 4)) (body 1 1 4 4) ++ cycles (ys upwards (body 1 1 4 4)) (body 1 1 4 4), again 4 (down_to 4) ++ stairs 4 4)
    -- the same of a body that is wider than it is high, and of the largest
    ∷ (cycles (xs straight box) box, stairs 8 12)
    ∷ (cycles (ys straight box) box, again 12 (up_to 8))
    ∷ (cycles (xs upwards box) box, again 12 (down_to 8))
    ∷ (cycles (ys upwards box) box, stairs 8 12)
    ∷ (pair (body_end straight largest) ++ pair (body_end upwards largest), 96 ∷ 0 ∷ 0 ∷ 96 ∷ [])
    ∷ (map (xs straight largest) some, 0 ∷ 0 ∷ 0 ∷ 0 ∷ 1 ∷ 1 ∷ 2 ∷ 15 ∷ 16 ∷ 31 ∷ 95 ∷ [])
    ∷ (map (ys upwards largest) some, 0 ∷ 0 ∷ 0 ∷ 0 ∷ 1 ∷ 1 ∷ 2 ∷ 15 ∷ 16 ∷ 31 ∷ 95 ∷ [])
    ∷ (map (xs upwards largest) some, 4096 ∷ 4081 ∷ 4080 ∷ 3969 ∷ 4096 ∷ 3969 ∷ 4096 ∷ 3969 ∷ 4096 ∷ 3969 ∷ 3969 ∷ [])
    ∷ []

-- k columns of n dots each, of which each starts one further than the one before
unfoldable pub slope : ℕ → ℕ → List ℕ
slope n k = joined (λ m. each (λ l. l) m n) 0 k

-- tilted: (X + u + v, Y + v), each dot up one further, whatever Q is; turned too, (X − v, Y + u + v); the end as straight
unfoldable pub slants : List Reading
slants =
    (each (along straight 5) 0 4 ++ each (along upwards 5) 0 4, replicate 8 5)
    ∷ (each (along slanted 5) 0 4 ++ each (along slanted_up 5) 0 4, again 2 (5 ∷ 6 ∷ 7 ∷ 8 ∷ []))
    ∷ (pair (laid straight 7 3) ++ pair (laid upwards 7 3), 7 ∷ 3 ∷ 4093 ∷ 7 ∷ [])
    ∷ (pair (laid slanted 7 3) ++ pair (laid slanted_up 7 3), 10 ∷ 3 ∷ 4093 ∷ 10 ∷ [])
    ∷ (pair (laid slanted 0 0) ++ pair (laid slanted_up 0 0), 0 ∷ 0 ∷ 4096 ∷ 0 ∷ [])
    -- P 2 and Q 3: no two lines of a glyph's row stand above each other
    ∷ (cycles (xs slanted letter) letter, slope 24 12)
    ∷ (cycles (ys slanted letter) letter, again 12 (up_to 24))
    ∷ (cycles (xs slanted_up letter) letter, again 12 (down_to 24))
    ∷ (cycles (ys slanted_up letter) letter, slope 24 12)
    -- a block, wider than it is high; one as high as it is wide
    ∷ (cycles (xs slanted box) box, slope 8 12)
    ∷ (cycles (ys slanted box) box, again 12 (up_to 8))
    ∷ (cycles (xs slanted_up box) box, again 12 (down_to 8))
    ∷ (cycles (ys slanted_up box) box, slope 8 12)
    ∷ (cycles (xs slanted (body 1 1 4 4)) (body 1 1 4 4), 0 ∷ 1 ∷ 2 ∷ 3 ∷ 1 ∷ 2 ∷ 3 ∷ 4 ∷ 2 ∷ 3 ∷ 4 ∷ 5 ∷ 3 ∷ 4 ∷ 5 ∷ 6 ∷ [])
    ∷ (cycles (ys slanted_up (body 1 1 4 4)) (body 1 1 4 4), 0 ∷ 1 ∷ 2 ∷ 3 ∷ 1 ∷ 2 ∷ 3 ∷ 4 ∷ 2 ∷ 3 ∷ 4 ∷ 5 ∷ 3 ∷ 4 ∷ 5 ∷ 6 ∷ [])
    -- the largest: its last dot, 95 along and 127 up, is 222 along
    ∷ (map (xs slanted largest) some, 0 ∷ 15 ∷ 16 ∷ 127 ∷ 1 ∷ 128 ∷ 2 ∷ 142 ∷ 16 ∷ 158 ∷ 222 ∷ [])
    ∷ (map (ys slanted largest) some, 0 ∷ 15 ∷ 16 ∷ 127 ∷ 0 ∷ 127 ∷ 0 ∷ 127 ∷ 0 ∷ 127 ∷ 127 ∷ [])
    ∷ (map (xs slanted_up largest) some, 4096 ∷ 4081 ∷ 4080 ∷ 3969 ∷ 4096 ∷ 3969 ∷ 4096 ∷ 3969 ∷ 4096 ∷ 3969 ∷ 3969 ∷ [])
    ∷ (map (ys slanted_up largest) some, 0 ∷ 15 ∷ 16 ∷ 127 ∷ 1 ∷ 128 ∷ 2 ∷ 142 ∷ 16 ∷ 158 ∷ 222 ∷ [])
    ∷ (pair (body_end slanted letter) ++ pair (body_end slanted_up letter), 12 ∷ 0 ∷ 0 ∷ 12 ∷ [])
    ∷ (pair (body_end slanted box) ++ pair (body_end slanted_up box), 12 ∷ 0 ∷ 0 ∷ 12 ∷ [])
    ∷ (pair (body_end slanted largest) ++ pair (body_end slanted_up largest), 96 ∷ 0 ∷ 0 ∷ 96 ∷ [])
    ∷ []

-- the dots of a glyph, column after column from 0 to 6, in each the rows from 0 to 9
unfoldable pub dots_of : List ℕ → List ℕ
dots_of part = joined (λ column. each (λ row. told (inked part column row)) 0 10) 0 7

-- five bytes each from code 20 on; left column first, bit 0 the bottom row; five columns
unfoldable pub glyphs : List Reading
glyphs =
    (joined (glyph_of (up_to 490)) 0x20 96, up_to 480)
    ∷ (glyph_of (up_to 490) 0x20, 0 ∷ 1 ∷ 2 ∷ 3 ∷ 4 ∷ [])
    ∷ (glyph_of (up_to 490) 0x41, 165 ∷ 166 ∷ 167 ∷ 168 ∷ 169 ∷ [])
    ∷ (glyph_of (up_to 490) 0x7F, 475 ∷ 476 ∷ 477 ∷ 478 ∷ 479 ∷ [])
    ∷ (glyph_of (up_to 480) 0x80, [])
    -- the glyph of 0A has every dot
    ∷ (solid_glyph, 255 ∷ 255 ∷ 255 ∷ 255 ∷ 255 ∷ [])
    ∷ (dots_of solid_glyph, replicate 50 1 ++ replicate 20 0)
    -- a sixth byte is no column; rows go round
    ∷ (
      dots_of (0x01 ∷ 0x82 ∷ 0x74 ∷ 0xC8 ∷ 0x1E ∷ 0xFF ∷ 0xFF ∷ []),
      (1 ∷ 0 ∷ 0 ∷ 0 ∷ 0 ∷ 0 ∷ 0 ∷ 0 ∷ 1 ∷ 0 ∷ [])
          ++ ((0 ∷ 1 ∷ 0 ∷ 0 ∷ 0 ∷ 0 ∷ 0 ∷ 1 ∷ 0 ∷ 1 ∷ [])
          ++ ((0 ∷ 0 ∷ 1 ∷ 0 ∷ 1 ∷ 1 ∷ 1 ∷ 0 ∷ 0 ∷ 0 ∷ [])
          ++ ((0 ∷ 0 ∷ 0 ∷ 1 ∷ 0 ∷ 0 ∷ 1 ∷ 1 ∷ 0 ∷ 0 ∷ [])
          ++ ((0 ∷ 1 ∷ 1 ∷ 1 ∷ 1 ∷ 0 ∷ 0 ∷ 0 ∷ 0 ∷ 1 ∷ [])
          ++ replicate 20 0)))),
    )
    -- the same with each dot the other way
    ∷ (
      dots_of (0xFE ∷ 0x7D ∷ 0x8B ∷ 0x37 ∷ 0xE1 ∷ []),
      (0 ∷ 1 ∷ 1 ∷ 1 ∷ 1 ∷ 1 ∷ 1 ∷ 1 ∷ 0 ∷ 1 ∷ [])
          ++ ((1 ∷ 0 ∷ 1 ∷ 1 ∷ 1 ∷ 1 ∷ 1 ∷ 0 ∷ 1 ∷ 0 ∷ [])
          ++ ((1 ∷ 1 ∷ 0 ∷ 1 ∷ 0 ∷ 0 ∷ 0 ∷ 1 ∷ 1 ∷ 1 ∷ [])
          ++ ((1 ∷ 1 ∷ 1 ∷ 0 ∷ 1 ∷ 1 ∷ 0 ∷ 0 ∷ 1 ∷ 1 ∷ [])
          ++ ((1 ∷ 0 ∷ 0 ∷ 0 ∷ 0 ∷ 1 ∷ 1 ∷ 1 ∷ 1 ∷ 0 ∷ [])
          ++ replicate 20 0)))),
    )
    -- a column that is missing has no dot
    ∷ (dots_of [], replicate 70 0)
    ∷ (dots_of (0xFF ∷ []), replicate 10 1 ++ replicate 60 0)
    ∷ []
