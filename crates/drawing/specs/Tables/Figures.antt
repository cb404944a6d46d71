-- Readings of figures: their cycles, the way to each, where they end, which cycles write.
-- Assumes nothing.
use Rattle.std.specs.Prelude.{ℕ, ◌-◌, ◌/◌, ◌%◌, Bool, true, false, List, [], ◌∷◌, ◌++◌, eqb, replicate}
use Rattle.basis.specs.Reading.{Reading, each, joined, told}
use Rattle.motion.specs.declared.position.Spot.{Spot}
use Rattle.motion.specs.declared.character.Lie.{Lie}
use Rattle.motion.specs.Tables.Characters.{straight, upwards, slanted, slanted_up}
use Rattle.drawing.specs.Figure.{Figure, Stroke, Cells, Pause, Nothing, cycles_of, way, end_way, writes}

-- a vector by CTRL2, M, m, the longer axis and the signs; a body by how it lies, P, Q, columns and rows
unfoldable pub stroke : ℕ → ℕ → ℕ → Bool → Bool → Bool → Figure
stroke ctrl2 M m steep left down = Stroke ctrl2 (record { long = M; short = m; steep = steep; left = left; down = down })

unfoldable pub cells : Lie → ℕ → ℕ → ℕ → ℕ → Figure
cells lie p q columns rows = Cells lie (record { p = p; q = q; columns = columns; rows = rows })

unfoldable pub again : ℕ → List ℕ → List ℕ
again n xs = joined (λ k. xs) 0 n

-- X and Y of a place, or of n places
unfoldable pub pair : Spot → List ℕ
pair s = s.x ∷ s.y ∷ []

unfoldable pub pairs : (ℕ → Spot) → ℕ → List ℕ
pairs at n = joined (λ i. pair (at i)) 0 n

-- M + 1 cycles, columns × rows, one, none
unfoldable pub counts : List Reading
counts =
    (each (λ M. cycles_of (stroke 3 M 0 false false false)) 0 9, 1 ∷ 2 ∷ 3 ∷ 4 ∷ 5 ∷ 6 ∷ 7 ∷ 8 ∷ 9 ∷ [])
    -- an off dot uses its cycle, in every line type
    ∷ (joined (λ c. each (λ M. cycles_of (stroke c M 0 false false false)) 0 33) 0 16, joined (λ c. each (λ n. n) 1 33) 0 16)
    ∷ (cycles_of (stroke 0 255 7 true true true) ∷ cycles_of (stroke 7 5 2 true false true) ∷ [], 256 ∷ 6 ∷ [])
    ∷ (cycles_of (cells straight 2 3 12 24) ∷ cycles_of (cells upwards 2 3 12 24) ∷ cycles_of (cells straight 16 16 96 128) ∷ [], 288 ∷ 288 ∷ 12288 ∷ [])
    ∷ (cycles_of (cells slanted 2 3 12 24) ∷ cycles_of (cells slanted_up 2 3 12 24) ∷ cycles_of (cells slanted_up 16 16 96 128) ∷ [], 288 ∷ 288 ∷ 12288 ∷ [])
    ∷ (cycles_of Pause ∷ cycles_of Nothing ∷ [], 1 ∷ 0 ∷ [])
    ∷ []

-- the way to each cycle: i along the longer axis and the offset along the other; backwards is 4,096 less
unfoldable pub ways : List Reading
ways =
    (pairs (way (stroke 0 5 2 false false false)) 6, 0 ∷ 0 ∷ 1 ∷ 0 ∷ 2 ∷ 1 ∷ 3 ∷ 1 ∷ 4 ∷ 2 ∷ 5 ∷ 2 ∷ [])
    ∷ (pairs (way (stroke 1 5 2 false true false)) 6, 4096 ∷ 0 ∷ 4095 ∷ 0 ∷ 4094 ∷ 1 ∷ 4093 ∷ 1 ∷ 4092 ∷ 2 ∷ 4091 ∷ 2 ∷ [])
    ∷ (pairs (way (stroke 2 5 2 true false true)) 6, 0 ∷ 4096 ∷ 0 ∷ 4095 ∷ 1 ∷ 4094 ∷ 1 ∷ 4093 ∷ 2 ∷ 4092 ∷ 2 ∷ 4091 ∷ [])
    ∷ (
      pairs (way (stroke 3 5 2 true true true)) 6,
      4096 ∷ 4096 ∷ 4096 ∷ 4095 ∷ 4095 ∷ 4094 ∷ 4095 ∷ 4093 ∷ 4094 ∷ 4092 ∷ 4094 ∷ 4091 ∷ [],
    )
    -- u and, within it, v; turned (−v, u)
    ∷ (pairs (way (cells straight 1 1 2 3)) 6, 0 ∷ 0 ∷ 0 ∷ 1 ∷ 0 ∷ 2 ∷ 1 ∷ 0 ∷ 1 ∷ 1 ∷ 1 ∷ 2 ∷ [])
    ∷ (pairs (way (cells upwards 1 1 2 3)) 6, 4096 ∷ 0 ∷ 4095 ∷ 0 ∷ 4094 ∷ 0 ∷ 4096 ∷ 1 ∷ 4095 ∷ 1 ∷ 4094 ∷ 1 ∷ [])
    ∷ (pair (way (cells straight 16 16 96 128) 5000) ++ pair (way (cells straight 16 16 96 128) 12287), 39 ∷ 8 ∷ 95 ∷ 127 ∷ [])
    ∷ (pair (way (cells upwards 16 16 96 128) 5000) ++ pair (way (cells upwards 16 16 96 128) 12287), 4088 ∷ 39 ∷ 3969 ∷ 95 ∷ [])
    -- tilted, (u + v, v); turned too, (−v, u + v)
    ∷ (pairs (way (cells slanted 1 1 2 3)) 6, 0 ∷ 0 ∷ 1 ∷ 1 ∷ 2 ∷ 2 ∷ 1 ∷ 0 ∷ 2 ∷ 1 ∷ 3 ∷ 2 ∷ [])
    ∷ (pairs (way (cells slanted_up 1 1 2 3)) 6, 4096 ∷ 0 ∷ 4095 ∷ 1 ∷ 4094 ∷ 2 ∷ 4096 ∷ 1 ∷ 4095 ∷ 2 ∷ 4094 ∷ 3 ∷ [])
    ∷ (pair (way (cells slanted 16 16 96 128) 5000) ++ pair (way (cells slanted 16 16 96 128) 12287), 47 ∷ 8 ∷ 222 ∷ 127 ∷ [])
    ∷ (pair (way (cells slanted_up 16 16 96 128) 5000) ++ pair (way (cells slanted_up 16 16 96 128) 12287), 4088 ∷ 47 ∷ 3969 ∷ 222 ∷ [])
    -- all 256 dots of the longest vectors: down along Y, and on the slant to (−,+)
    ∷ (pairs (way (stroke 0 255 0 true false true)) 256, joined (λ i. 0 ∷ (4096 - i) ∷ []) 0 256)
    ∷ (pairs (way (stroke 2 255 255 false true false)) 256, joined (λ i. (4096 - i) ∷ i ∷ []) 0 256)
    ∷ (pairs (way Pause) 3 ++ pairs (way Nothing) 3, replicate 12 0)
    -- a vector ends on its last dot
    ∷ (pair (end_way (stroke 0 5 2 false false false)), 5 ∷ 2 ∷ [])
    ∷ (pair (end_way (stroke 1 5 2 false true false)), 4091 ∷ 2 ∷ [])
    ∷ (pair (end_way (stroke 2 5 2 true false true)), 2 ∷ 4091 ∷ [])
    ∷ (pair (end_way (stroke 3 5 2 true true true)), 4094 ∷ 4091 ∷ [])
    ∷ (pair (end_way (stroke 0 0 0 false false false)) ++ pair (end_way (stroke 0 0 0 false true true)), 0 ∷ 0 ∷ 4096 ∷ 4096 ∷ [])
    -- a character ends past its columns, Y restored; turned, X restored
    ∷ (pair (end_way (cells straight 2 3 12 24)) ++ pair (end_way (cells upwards 2 3 12 24)), 12 ∷ 0 ∷ 0 ∷ 12 ∷ [])
    ∷ (pair (end_way (cells straight 3 2 12 8)) ++ pair (end_way (cells upwards 3 2 12 8)), 12 ∷ 0 ∷ 0 ∷ 12 ∷ [])
    -- tilted it ends there too
    ∷ (pair (end_way (cells slanted 2 3 12 24)) ++ pair (end_way (cells slanted_up 2 3 12 24)), 12 ∷ 0 ∷ 0 ∷ 12 ∷ [])
    ∷ (pair (end_way (cells slanted 3 2 12 8)) ++ pair (end_way (cells slanted_up 3 2 12 8)), 12 ∷ 0 ∷ 0 ∷ 12 ∷ [])
    -- the longest vectors and the largest character
    ∷ (pair (end_way (stroke 1 255 255 false true false)) ++ pair (end_way (stroke 0 200 100 true false true)), 3841 ∷ 255 ∷ 100 ∷ 3896 ∷ [])
    ∷ (pair (end_way (cells straight 16 16 96 128)) ++ pair (end_way (cells upwards 16 16 96 128)), 96 ∷ 0 ∷ 0 ∷ 96 ∷ [])
    ∷ (pair (end_way Pause) ++ pair (end_way Nothing), replicate 4 0)
    ∷ []

-- a glyph with a corner, a slant and a bar
unfoldable pub glyph : List ℕ
glyph = 0x01 ∷ 0x82 ∷ 0x74 ∷ 0xC8 ∷ 0x1E ∷ []

-- its columns, the bottom row first
unfoldable pub column0 : List ℕ
column0 = 1 ∷ 0 ∷ 0 ∷ 0 ∷ 0 ∷ 0 ∷ 0 ∷ 0 ∷ []

unfoldable pub column1 : List ℕ
column1 = 0 ∷ 1 ∷ 0 ∷ 0 ∷ 0 ∷ 0 ∷ 0 ∷ 1 ∷ []

unfoldable pub column2 : List ℕ
column2 = 0 ∷ 0 ∷ 1 ∷ 0 ∷ 1 ∷ 1 ∷ 1 ∷ 0 ∷ []

unfoldable pub column3 : List ℕ
column3 = 0 ∷ 0 ∷ 0 ∷ 1 ∷ 0 ∷ 0 ∷ 1 ∷ 1 ∷ []

unfoldable pub column4 : List ℕ
column4 = 0 ∷ 1 ∷ 1 ∷ 1 ∷ 1 ∷ 0 ∷ 0 ∷ 0 ∷ []

-- what the first n cycles of a figure write
unfoldable pub wrote : Figure → List ℕ → ℕ → List ℕ
wrote f part n = each (λ i. told (writes f part i)) 0 n

-- n of each number
unfoldable pub stretched : ℕ → List ℕ → List ℕ
stretched n [] = []
stretched n (b ∷ bs) = replicate n b ++ stretched n bs

unfoldable pub writing : List Reading
writing =
    -- a vector by its line type, whatever the glyph is
    (wrote (stroke 0 200 3 false false false) [] 32, replicate 32 1)
    ∷ (wrote (stroke 1 200 3 true true false) glyph 32, again 8 (1 ∷ 1 ∷ 0 ∷ 0 ∷ []))
    ∷ (wrote (stroke 2 200 3 false true true) [] 32, again 4 (1 ∷ 1 ∷ 1 ∷ 1 ∷ 0 ∷ 0 ∷ 0 ∷ 0 ∷ []))
    ∷ (wrote (stroke 3 200 3 true false true) glyph 32, again 2 (replicate 10 1 ++ (0 ∷ 0 ∷ 1 ∷ 1 ∷ 0 ∷ 0 ∷ [])))
    ∷ (wrote (stroke 14 200 3 true false true) glyph 16, again 2 (1 ∷ 1 ∷ 1 ∷ 1 ∷ 0 ∷ 0 ∷ 0 ∷ 0 ∷ []))
    -- each type to the last of 256 dots
    ∷ (
      joined (λ t. wrote (stroke t 255 7 true false true) [] 256) 0 4,
      replicate 256 1 ++ again 64 (1 ∷ 1 ∷ 0 ∷ 0 ∷ []) ++ again 32 (1 ∷ 1 ∷ 1 ∷ 1 ∷ 0 ∷ 0 ∷ 0 ∷ 0 ∷ [])
          ++ again 16 (replicate 10 1 ++ (0 ∷ 0 ∷ 1 ∷ 1 ∷ 0 ∷ 0 ∷ [])),
    )
    -- a character where its glyph has the dot, the sixth column blank: P 2 and Q 1, P 1 and Q 2, turned too
    ∷ (
      wrote (cells straight 2 1 12 8) glyph 96,
      again 2 column0 ++ again 2 column1 ++ again 2 column2 ++ again 2 column3 ++ again 2 column4 ++ replicate 16 0,
    )
    ∷ (
      joined (λ k. wrote (stroke 1 200 3 (eqb (k % 2) 1) (eqb (k / 2 % 2) 1) (eqb (k / 4) 1)) glyph 8) 0 8,
      again 16 (1 ∷ 1 ∷ 0 ∷ 0 ∷ []),
    )
    ∷ (wrote (cells upwards 1 2 6 16) glyph 96, stretched 2 (column0 ++ column1 ++ column2 ++ column3 ++ column4 ++ replicate 8 0))
    -- tilted, the same cycles write
    ∷ (wrote (cells slanted 1 2 6 16) glyph 96, wrote (cells straight 1 2 6 16) glyph 96)
    ∷ (wrote (cells slanted_up 2 1 12 8) glyph 96, wrote (cells straight 2 1 12 8) glyph 96)
    -- at P 16 and Q 16 the cycles from 4,096 and 8,192 on are columns 2 and 4: their two bottom rows of 16; the last is blank
    ∷ (
      told (writes (cells straight 16 16 96 128) glyph 4096) ∷ told (writes (cells straight 16 16 96 128) glyph 4128)
          ∷ told (writes (cells straight 16 16 96 128) glyph 8192) ∷ told (writes (cells straight 16 16 96 128) glyph 8208)
          ∷ told (writes (cells straight 16 16 96 128) glyph 12287) ∷ [],
      0 ∷ 1 ∷ 0 ∷ 1 ∷ 0 ∷ [],
    )
    -- a block all on
    ∷ (wrote (cells straight 2 1 8 4) (replicate 5 255) 32, replicate 32 1)
    -- one cycle without a dot
    ∷ (wrote Pause (replicate 5 255) 3 ++ wrote Nothing (replicate 5 255) 3, replicate 6 0)
    ∷ []
