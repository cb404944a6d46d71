-- Readings of how a vector steps: how many dots it has, and where each lies.
-- Assumes nothing.
use Rattle.std.specs.Prelude.{ℕ, ◌+◌, ◌-◌, Bool, true, false, List, [], ◌∷◌, ◌++◌, replicate}
use Rattle.basis.specs.Reading.{Reading, each, joined}
use Rattle.motion.specs.declared.vector.Line.{Line}
use Rattle.motion.specs.Vector.{vector_cycles, offset, along_x, along_y, vector_x, vector_y, dist}

-- along the shorter axis, all dots of a vector
unfoldable pub whole : ℕ → ℕ → List ℕ
whole M m = each (offset M m) 0 (M + 1)

-- the whole dot nearest to the line; where two are as near, the one away from the start's side
unfoldable pub offsets : List Reading
offsets =
    -- with M = 0 there is one dot
    (whole 0 0, 0 ∷ [])
    ∷ (whole 1 0, 0 ∷ 0 ∷ [])
    ∷ (whole 1 1, 0 ∷ 1 ∷ [])
    ∷ (whole 2 0, 0 ∷ 0 ∷ 0 ∷ [])
    ∷ (whole 2 1, 0 ∷ 1 ∷ 1 ∷ [])
    ∷ (whole 2 2, 0 ∷ 1 ∷ 2 ∷ [])
    ∷ (whole 3 0, 0 ∷ 0 ∷ 0 ∷ 0 ∷ [])
    ∷ (whole 3 1, 0 ∷ 0 ∷ 1 ∷ 1 ∷ [])
    ∷ (whole 3 2, 0 ∷ 1 ∷ 1 ∷ 2 ∷ [])
    ∷ (whole 3 3, 0 ∷ 1 ∷ 2 ∷ 3 ∷ [])
    ∷ (whole 4 0, 0 ∷ 0 ∷ 0 ∷ 0 ∷ 0 ∷ [])
    ∷ (whole 4 1, 0 ∷ 0 ∷ 1 ∷ 1 ∷ 1 ∷ [])
    ∷ (whole 4 2, 0 ∷ 1 ∷ 1 ∷ 2 ∷ 2 ∷ [])
    ∷ (whole 4 3, 0 ∷ 1 ∷ 2 ∷ 2 ∷ 3 ∷ [])
    ∷ (whole 4 4, 0 ∷ 1 ∷ 2 ∷ 3 ∷ 4 ∷ [])
    ∷ (whole 5 0, 0 ∷ 0 ∷ 0 ∷ 0 ∷ 0 ∷ 0 ∷ [])
    ∷ (whole 5 1, 0 ∷ 0 ∷ 0 ∷ 1 ∷ 1 ∷ 1 ∷ [])
    ∷ (whole 5 2, 0 ∷ 0 ∷ 1 ∷ 1 ∷ 2 ∷ 2 ∷ [])
    ∷ (whole 5 3, 0 ∷ 1 ∷ 1 ∷ 2 ∷ 2 ∷ 3 ∷ [])
    ∷ (whole 5 4, 0 ∷ 1 ∷ 2 ∷ 2 ∷ 3 ∷ 4 ∷ [])
    ∷ (whole 5 5, 0 ∷ 1 ∷ 2 ∷ 3 ∷ 4 ∷ 5 ∷ [])
    ∷ (whole 6 0, 0 ∷ 0 ∷ 0 ∷ 0 ∷ 0 ∷ 0 ∷ 0 ∷ [])
    ∷ (whole 6 1, 0 ∷ 0 ∷ 0 ∷ 1 ∷ 1 ∷ 1 ∷ 1 ∷ [])
    ∷ (whole 6 2, 0 ∷ 0 ∷ 1 ∷ 1 ∷ 1 ∷ 2 ∷ 2 ∷ [])
    ∷ (whole 6 3, 0 ∷ 1 ∷ 1 ∷ 2 ∷ 2 ∷ 3 ∷ 3 ∷ [])
    ∷ (whole 6 4, 0 ∷ 1 ∷ 1 ∷ 2 ∷ 3 ∷ 3 ∷ 4 ∷ [])
    ∷ (whole 6 5, 0 ∷ 1 ∷ 2 ∷ 3 ∷ 3 ∷ 4 ∷ 5 ∷ [])
    ∷ (whole 6 6, 0 ∷ 1 ∷ 2 ∷ 3 ∷ 4 ∷ 5 ∷ 6 ∷ [])
    ∷ (whole 7 0, 0 ∷ 0 ∷ 0 ∷ 0 ∷ 0 ∷ 0 ∷ 0 ∷ 0 ∷ [])
    ∷ (whole 7 1, 0 ∷ 0 ∷ 0 ∷ 0 ∷ 1 ∷ 1 ∷ 1 ∷ 1 ∷ [])
    ∷ (whole 7 2, 0 ∷ 0 ∷ 1 ∷ 1 ∷ 1 ∷ 1 ∷ 2 ∷ 2 ∷ [])
    ∷ (whole 7 3, 0 ∷ 0 ∷ 1 ∷ 1 ∷ 2 ∷ 2 ∷ 3 ∷ 3 ∷ [])
    ∷ (whole 7 4, 0 ∷ 1 ∷ 1 ∷ 2 ∷ 2 ∷ 3 ∷ 3 ∷ 4 ∷ [])
    ∷ (whole 7 5, 0 ∷ 1 ∷ 1 ∷ 2 ∷ 3 ∷ 4 ∷ 4 ∷ 5 ∷ [])
    ∷ (whole 7 6, 0 ∷ 1 ∷ 2 ∷ 3 ∷ 3 ∷ 4 ∷ 5 ∷ 6 ∷ [])
    ∷ (whole 7 7, 0 ∷ 1 ∷ 2 ∷ 3 ∷ 4 ∷ 5 ∷ 6 ∷ 7 ∷ [])
    -- 8, 9, 128 and 200 long
    ∷ (whole 8 1, 0 ∷ 0 ∷ 0 ∷ 0 ∷ 1 ∷ 1 ∷ 1 ∷ 1 ∷ 1 ∷ [])
    ∷ (whole 8 3, 0 ∷ 0 ∷ 1 ∷ 1 ∷ 2 ∷ 2 ∷ 2 ∷ 3 ∷ 3 ∷ [])
    ∷ (whole 9 4, 0 ∷ 0 ∷ 1 ∷ 1 ∷ 2 ∷ 2 ∷ 3 ∷ 3 ∷ 4 ∷ 4 ∷ [])
    ∷ (whole 128 1, replicate 64 0 ++ replicate 65 1)
    ∷ (whole 200 100, joined (λ k. k ∷ (k + 1) ∷ []) 0 100 ++ (100 ∷ []))
    -- 10 long and 255 long
    ∷ (whole 10 1, 0 ∷ 0 ∷ 0 ∷ 0 ∷ 0 ∷ 1 ∷ 1 ∷ 1 ∷ 1 ∷ 1 ∷ 1 ∷ [])
    ∷ (whole 10 3, 0 ∷ 0 ∷ 1 ∷ 1 ∷ 1 ∷ 2 ∷ 2 ∷ 2 ∷ 2 ∷ 3 ∷ 3 ∷ [])
    ∷ (whole 10 9, 0 ∷ 1 ∷ 2 ∷ 3 ∷ 4 ∷ 5 ∷ 5 ∷ 6 ∷ 7 ∷ 8 ∷ 9 ∷ [])
    ∷ (whole 16 5, 0 ∷ 0 ∷ 1 ∷ 1 ∷ 1 ∷ 2 ∷ 2 ∷ 2 ∷ 3 ∷ 3 ∷ 3 ∷ 3 ∷ 4 ∷ 4 ∷ 4 ∷ 5 ∷ 5 ∷ [])
    ∷ (whole 255 0, replicate 256 0)
    ∷ (whole 255 1, replicate 128 0 ++ replicate 128 1)
    ∷ (whole 255 127, joined (λ k. k ∷ k ∷ []) 0 128)
    ∷ (whole 255 254, each (λ k. k) 0 128 ++ each (λ k. k) 127 128)
    ∷ (whole 255 255, each (λ k. k) 0 256)
    -- every second dot at a tie
    ∷ (whole 254 127, joined (λ k. k ∷ (k + 1) ∷ []) 0 127 ++ (127 ∷ []))
    -- the formula itself, past the end too
    ∷ (offset 5 2 10 ∷ offset 5 2 11 ∷ offset 2 1 255 ∷ offset 3 7 4 ∷ [], 4 ∷ 4 ∷ 128 ∷ 9 ∷ [])
    ∷ []

-- a vector with M, m, the longer axis and the signs
unfoldable pub line : ℕ → ℕ → Bool → Bool → Bool → Line
line M m steep left down = record { long = M; short = m; steep = steep; left = left; down = down }

-- there are M + 1 dots, whatever m is
unfoldable pub counts : List Reading
counts =
    (each (λ M. vector_cycles (line M 0 false false false)) 0 256, each (λ n. n) 1 256)
    ∷ (vector_cycles (line 5 2 true true true) ∷ vector_cycles (line 200 200 false true false) ∷ [], 6 ∷ 201 ∷ [])
    ∷ (each (λ M. vector_cycles (line M 0 true true true)) 0 256, each (λ n. n) 1 256)
    ∷ []

-- what a vector goes along X, along Y, and what is added to X and to Y for it, over n dots
unfoldable pub goes : ℕ → Line → List ℕ
goes n l = each (along_x l) 0 n ++ (each (along_y l) 0 n ++ (each (vector_x l) 0 n ++ each (vector_y l) 0 n))

-- a vector in all eight ways: i is along the longer axis, o along the other; backwards, 4,096 less
unfoldable pub eight_ways : ℕ → ℕ → List ℕ → List ℕ → List ℕ → List ℕ → List Reading
eight_ways M m i o iBack oBack =
    (goes (M + 1) (line M m false false false), i ++ (o ++ (i ++ o)))
    ∷ (goes (M + 1) (line M m false true false), i ++ (o ++ (iBack ++ o)))
    ∷ (goes (M + 1) (line M m false false true), i ++ (o ++ (i ++ oBack)))
    ∷ (goes (M + 1) (line M m false true true), i ++ (o ++ (iBack ++ oBack)))
    ∷ (goes (M + 1) (line M m true false false), o ++ (i ++ (o ++ i)))
    ∷ (goes (M + 1) (line M m true true false), o ++ (i ++ (oBack ++ i)))
    ∷ (goes (M + 1) (line M m true false true), o ++ (i ++ (o ++ iBack)))
    ∷ (goes (M + 1) (line M m true true true), o ++ (i ++ (oBack ++ iBack)))
    ∷ []

-- 4,096 less k, for k from 0 on
unfoldable pub less : ℕ → List ℕ
less n = each (λ k. 4096 - k) 0 n

unfoldable pub ways : List Reading
ways =
    eight_ways 0 0 (0 ∷ []) (0 ∷ []) (4096 ∷ []) (4096 ∷ [])
    ++ eight_ways 2 1 (0 ∷ 1 ∷ 2 ∷ []) (0 ∷ 1 ∷ 1 ∷ []) (4096 ∷ 4095 ∷ 4094 ∷ []) (4096 ∷ 4095 ∷ 4095 ∷ [])
    ++ eight_ways
    4
    3
    (0 ∷ 1 ∷ 2 ∷ 3 ∷ 4 ∷ [])
    (0 ∷ 1 ∷ 2 ∷ 2 ∷ 3 ∷ [])
    (4096 ∷ 4095 ∷ 4094 ∷ 4093 ∷ 4092 ∷ [])
    (4096 ∷ 4095 ∷ 4094 ∷ 4094 ∷ 4093 ∷ [])
    ++ eight_ways
    5
    2
    (0 ∷ 1 ∷ 2 ∷ 3 ∷ 4 ∷ 5 ∷ [])
    (0 ∷ 0 ∷ 1 ∷ 1 ∷ 2 ∷ 2 ∷ [])
    (4096 ∷ 4095 ∷ 4094 ∷ 4093 ∷ 4092 ∷ 4091 ∷ [])
    (4096 ∷ 4096 ∷ 4095 ∷ 4095 ∷ 4094 ∷ 4094 ∷ [])
    -- to the full length
    ++ (
    (goes 256 (line 255 255 false true false), joined (λ k. each (λ i. i) 0 256) 0 2 ++ (less 256 ++ each (λ i. i) 0 256))
    ∷ (goes 256 (line 255 0 true false true), replicate 256 0 ++ (each (λ i. i) 0 256 ++ (replicate 256 0 ++ less 256)))
    ∷ []
    )

-- how far two numbers are apart
unfoldable pub apart : List Reading
apart = (dist 0 0 ∷ dist 3 3 ∷ dist 7 0 ∷ dist 0 7 ∷ dist 9 4 ∷ dist 4 9 ∷ dist 5 4 ∷ dist 4 5 ∷ [], 0 ∷ 0 ∷ 7 ∷ 7 ∷ 5 ∷ 5 ∷ 1 ∷ 1 ∷ []) ∷ []
