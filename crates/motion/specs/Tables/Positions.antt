-- Readings of positions and line types.
-- Assumes nothing.
use Rattle.std.specs.Prelude.{ℕ, ◌^◌, true, false, List, [], ◌∷◌, ◌++◌, map, replicate}
use Rattle.basis.specs.Reading.{Reading, each, joined, told}
use Rattle.motion.specs.declared.position.Spot.{Spot}
use Rattle.motion.specs.Position.{ahead, behind, signed, spot, moved, moved_back}
use Rattle.motion.specs.LineType.{period, line_on}

-- some numbers n times over
unfoldable pub again : ℕ → List ℕ → List ℕ
again n xs = joined (λ k. xs) 0 n

-- X and Y of a place
unfoldable pub pair : Spot → List ℕ
pair s = s.x ∷ s.y ∷ []

-- lengths about 0 and 4,096
unfoldable pub edges : List ℕ
edges = 0 ∷ 1 ∷ 2 ∷ 2047 ∷ 2048 ∷ 4094 ∷ 4095 ∷ 4096 ∷ 4097 ∷ 8191 ∷ 8192 ∷ []

-- X and Y are 12-bit and step around modulo 4,096
unfoldable pub steps : List Reading
steps =
    (map (ahead 0) edges, 0 ∷ 1 ∷ 2 ∷ 2047 ∷ 2048 ∷ 4094 ∷ 4095 ∷ 0 ∷ 1 ∷ 4095 ∷ 0 ∷ [])
    ∷ (map (ahead 1) edges, 1 ∷ 2 ∷ 3 ∷ 2048 ∷ 2049 ∷ 4095 ∷ 0 ∷ 1 ∷ 2 ∷ 0 ∷ 1 ∷ [])
    ∷ (map (ahead 2048) edges, 2048 ∷ 2049 ∷ 2050 ∷ 4095 ∷ 0 ∷ 2046 ∷ 2047 ∷ 2048 ∷ 2049 ∷ 2047 ∷ 2048 ∷ [])
    ∷ (map (ahead 4094) edges, 4094 ∷ 4095 ∷ 0 ∷ 2045 ∷ 2046 ∷ 4092 ∷ 4093 ∷ 4094 ∷ 4095 ∷ 4093 ∷ 4094 ∷ [])
    ∷ (map (ahead 4095) edges, 4095 ∷ 0 ∷ 1 ∷ 2046 ∷ 2047 ∷ 4093 ∷ 4094 ∷ 4095 ∷ 0 ∷ 4094 ∷ 4095 ∷ [])
    ∷ (map (ahead 4096) edges, 0 ∷ 1 ∷ 2 ∷ 2047 ∷ 2048 ∷ 4094 ∷ 4095 ∷ 0 ∷ 1 ∷ 4095 ∷ 0 ∷ [])
    ∷ (map (behind 0) edges, 0 ∷ 4095 ∷ 4094 ∷ 2049 ∷ 2048 ∷ 2 ∷ 1 ∷ 0 ∷ 4095 ∷ 1 ∷ 0 ∷ [])
    ∷ (map (behind 1) edges, 1 ∷ 0 ∷ 4095 ∷ 2050 ∷ 2049 ∷ 3 ∷ 2 ∷ 1 ∷ 0 ∷ 2 ∷ 1 ∷ [])
    ∷ (map (behind 2048) edges, 2048 ∷ 2047 ∷ 2046 ∷ 1 ∷ 0 ∷ 2050 ∷ 2049 ∷ 2048 ∷ 2047 ∷ 2049 ∷ 2048 ∷ [])
    ∷ (map (behind 4095) edges, 4095 ∷ 4094 ∷ 4093 ∷ 2048 ∷ 2047 ∷ 1 ∷ 0 ∷ 4095 ∷ 4094 ∷ 0 ∷ 4095 ∷ [])
    ∷ (map (behind 4096) edges, 0 ∷ 4095 ∷ 4094 ∷ 2049 ∷ 2048 ∷ 2 ∷ 1 ∷ 0 ∷ 4095 ∷ 1 ∷ 0 ∷ [])
    -- a bit at a time, on and back
    ∷ (each (λ k. ahead 0 (2 ^ k)) 0 13, 1 ∷ 2 ∷ 4 ∷ 8 ∷ 16 ∷ 32 ∷ 64 ∷ 128 ∷ 256 ∷ 512 ∷ 1024 ∷ 2048 ∷ 0 ∷ [])
    ∷ (
      each (λ k. behind 0 (2 ^ k)) 0 13,
      4095 ∷ 4094 ∷ 4092 ∷ 4088 ∷ 4080 ∷ 4064 ∷ 4032 ∷ 3968 ∷ 3840 ∷ 3584 ∷ 3072 ∷ 2048 ∷ 0 ∷ [],
    )
    -- in the middle nothing wraps
    ∷ (ahead 300 100 ∷ ahead 255 1 ∷ ahead 511 1 ∷ ahead 1000 3000 ∷ [], 400 ∷ 256 ∷ 512 ∷ 4000 ∷ [])
    ∷ (behind 300 100 ∷ behind 256 1 ∷ behind 512 1 ∷ behind 100 300 ∷ [], 200 ∷ 255 ∷ 511 ∷ 3896 ∷ [])
    ∷ []

-- a distance as what is added: d back is 4,096 less d
unfoldable pub distances : List Reading
distances =
    (map (signed false) (0 ∷ 1 ∷ 2 ∷ 255 ∷ 256 ∷ 4095 ∷ 4096 ∷ []), 0 ∷ 1 ∷ 2 ∷ 255 ∷ 256 ∷ 4095 ∷ 4096 ∷ [])
    ∷ (map (signed true) (0 ∷ 1 ∷ 2 ∷ 255 ∷ 256 ∷ 4095 ∷ 4096 ∷ []), 4096 ∷ 4095 ∷ 4094 ∷ 3841 ∷ 3840 ∷ 1 ∷ 0 ∷ [])
    ∷ []

-- a place moved on by a way and back by it: X by the way's X, Y by its Y
unfoldable pub places : List Reading
places =
    (pair (spot 7 9), 7 ∷ 9 ∷ [])
    ∷ (pair (moved (spot 300 700) (spot 20 5)), 320 ∷ 705 ∷ [])
    ∷ (pair (moved (spot 4090 700) (spot 20 5)), 14 ∷ 705 ∷ [])
    ∷ (pair (moved (spot 300 4094) (spot 20 5)), 320 ∷ 3 ∷ [])
    ∷ (pair (moved (spot 10 3) (spot 4095 4090)), 9 ∷ 4093 ∷ [])
    ∷ (pair (moved (spot 10 3) (spot 4096 4096)), 10 ∷ 3 ∷ [])
    ∷ (pair (moved (spot 4095 4095) (spot 0 0)), 4095 ∷ 4095 ∷ [])
    ∷ (pair (moved (spot 4095 4095) (spot 1 1)) ++ pair (moved_back (spot 0 0) (spot 1 1)), 0 ∷ 0 ∷ 4095 ∷ 4095 ∷ [])
    ∷ (pair (moved_back (spot 300 700) (spot 20 5)), 280 ∷ 695 ∷ [])
    ∷ (pair (moved_back (spot 14 705) (spot 20 5)), 4090 ∷ 700 ∷ [])
    ∷ (pair (moved_back (spot 320 3) (spot 20 5)), 300 ∷ 4094 ∷ [])
    ∷ (pair (moved_back (spot 9 4093) (spot 4095 4090)), 10 ∷ 3 ∷ [])
    ∷ (pair (moved_back (spot 10 3) (spot 4096 4096)), 10 ∷ 3 ∷ [])
    ∷ (pair (moved_back (spot 0 0) (spot 0 0)), 0 ∷ 0 ∷ [])
    ∷ []

-- the dots from 0 on of a vector with some CTRL2
unfoldable pub dots : ℕ → ℕ → List ℕ
dots n ctrl2 = each (λ i. told (line_on ctrl2 i)) 0 n

-- ten on, two off, two on, two off
unfoldable pub dash_dot : List ℕ
dash_dot = replicate 10 1 ++ (0 ∷ 0 ∷ 1 ∷ 1 ∷ 0 ∷ 0 ∷ [])

-- four line types, which repeat from dot 0: all 256 dots of the longest vector
unfoldable pub line_types : List Reading
line_types =
    (map told (period 0), 1 ∷ [])
    ∷ (map told (period 1), 1 ∷ 1 ∷ 0 ∷ 0 ∷ [])
    ∷ (map told (period 2), 1 ∷ 1 ∷ 1 ∷ 1 ∷ 0 ∷ 0 ∷ 0 ∷ 0 ∷ [])
    ∷ (map told (period 3), dash_dot)
    ∷ (dots 256 0, replicate 256 1)
    ∷ (dots 256 1, again 64 (1 ∷ 1 ∷ 0 ∷ 0 ∷ []))
    ∷ (dots 256 2, again 32 (1 ∷ 1 ∷ 1 ∷ 1 ∷ 0 ∷ 0 ∷ 0 ∷ 0 ∷ []))
    ∷ (dots 256 3, again 16 dash_dot)
    -- CTRL2 bits 0 and 1 alone say which: bits 2 and 3 change nothing, to the last dot
    ∷ (
      joined (dots 256) 4 12,
      again 3 (replicate 256 1 ++ (again 64 (1 ∷ 1 ∷ 0 ∷ 0 ∷ []) ++ (again 32 (1 ∷ 1 ∷ 1 ∷ 1 ∷ 0 ∷ 0 ∷ 0 ∷ 0 ∷ []) ++ again 16 dash_dot))),
    )
    ∷ (
      joined (dots 32) 0 16,
      again 4 (replicate 32 1 ++ (again 8 (1 ∷ 1 ∷ 0 ∷ 0 ∷ []) ++ (again 4 (1 ∷ 1 ∷ 1 ∷ 1 ∷ 0 ∷ 0 ∷ 0 ∷ 0 ∷ []) ++ again 2 dash_dot))),
    )
    ∷ []
