-- Readings of dots: a picture's dots by their numbers, and the dot of a position.
-- Assumes nothing.
use Rattle.std.specs.Prelude.{ℕ, ◌+◌, ◌*◌, Bool, true, false, List, [], ◌∷◌, ◌++◌, map, replicate}
use Rattle.basis.specs.Reading.{Reading, each, joined, told}
use Rattle.picture.specs.declared.screen.Window.{Window}
use Rattle.picture.specs.Dot.{dot_at, set_dot, paint, gathered, has, solid, whole}
use Rattle.picture.specs.Screen.{folded, dot_number, place}
use Rattle.picture.specs.Tables.Bits.{again, from}

-- byte b of three alone is w; the others are o
unfoldable pub single : ℕ → ℕ → List ℕ
single o w = w ∷ o ∷ o ∷ []

unfoldable pub second : ℕ → ℕ → List ℕ
second o w = o ∷ w ∷ o ∷ []

unfoldable pub third : ℕ → ℕ → List ℕ
third o w = o ∷ o ∷ w ∷ []

-- lists put one after the other
unfoldable pub flat : List (List ℕ) → List ℕ
flat [] = []
flat (xs ∷ xss) = xs ++ flat xss

-- the weights of the bits of a byte, the lowest first; a byte without each
unfoldable pub weights : List ℕ
weights = 1 ∷ 2 ∷ 4 ∷ 8 ∷ 16 ∷ 32 ∷ 64 ∷ 128 ∷ []

unfoldable pub gaps : List ℕ
gaps = 254 ∷ 253 ∷ 251 ∷ 247 ∷ 239 ∷ 223 ∷ 191 ∷ 127 ∷ []

-- three bytes of which no two are alike
unfoldable pub mixed : List ℕ
mixed = 0x01 ∷ 0x82 ∷ 0x74 ∷ []

-- dot d is bit d mod 8, 0 the lowest, of byte d / 8; a lit dot is 1
unfoldable pub dots : List Reading
dots =
    -- past the end nothing is lit
    (
      each (λ d. told (dot_at (0x01 ∷ 0x82 ∷ 0x74 ∷ []) d)) 0 40,
      (1 ∷ 0 ∷ 0 ∷ 0 ∷ 0 ∷ 0 ∷ 0 ∷ 0 ∷ [])
          ++ (0 ∷ 1 ∷ 0 ∷ 0 ∷ 0 ∷ 0 ∷ 0 ∷ 1 ∷ [])
          ++ (0 ∷ 0 ∷ 1 ∷ 0 ∷ 1 ∷ 1 ∷ 1 ∷ 0 ∷ [])
          ++ replicate 16 0,
    )
    ∷ (
      each (λ d. told (dot_at (0xFE ∷ 0x7D ∷ 0x8B ∷ []) d)) 0 40,
      (0 ∷ 1 ∷ 1 ∷ 1 ∷ 1 ∷ 1 ∷ 1 ∷ 1 ∷ [])
          ++ (1 ∷ 0 ∷ 1 ∷ 1 ∷ 1 ∷ 1 ∷ 1 ∷ 0 ∷ [])
          ++ (1 ∷ 1 ∷ 0 ∷ 1 ∷ 0 ∷ 0 ∷ 0 ∷ 1 ∷ [])
          ++ replicate 16 0,
    )
    -- each of 24 dots lit alone, darkened alone; again lit, again darkened; past the end none
    ∷ (joined (λ d. set_dot true d (0 ∷ 0 ∷ 0 ∷ [])) 0 24, flat (map (single 0) weights ++ (map (second 0) weights ++ map (third 0) weights)))
    ∷ (
      joined (λ d. set_dot false d (255 ∷ 255 ∷ 255 ∷ [])) 0 24,
      flat (map (single 255) gaps ++ (map (second 255) gaps ++ map (third 255) gaps)),
    )
    ∷ (joined (λ d. set_dot true d (255 ∷ 255 ∷ 255 ∷ [])) 0 40, replicate 120 255)
    ∷ (joined (λ d. set_dot false d (0 ∷ 0 ∷ 0 ∷ [])) 0 40, replicate 120 0)
    ∷ (joined (λ d. set_dot true d (1 ∷ 2 ∷ 3 ∷ [])) 24 16, again 16 (1 ∷ 2 ∷ 3 ∷ []))
    -- the byte's other dots stay as they are
    ∷ (
      joined (λ d. set_dot true d mixed) 0 24,
      flat (
          map (λ b. b ∷ 0x82 ∷ 0x74 ∷ []) (0x01 ∷ 0x03 ∷ 0x05 ∷ 0x09 ∷ 0x11 ∷ 0x21 ∷ 0x41 ∷ 0x81 ∷ [])
          ++ map (λ b. 0x01 ∷ b ∷ 0x74 ∷ []) (0x83 ∷ 0x82 ∷ 0x86 ∷ 0x8A ∷ 0x92 ∷ 0xA2 ∷ 0xC2 ∷ 0x82 ∷ [])
          ++ map (λ b. 0x01 ∷ 0x82 ∷ b ∷ []) (0x75 ∷ 0x76 ∷ 0x74 ∷ 0x7C ∷ 0x74 ∷ 0x74 ∷ 0x74 ∷ 0xF4 ∷ [])
          ),
    )
    ∷ (
      joined (λ d. set_dot false d mixed) 0 24,
      flat (
          map (λ b. b ∷ 0x82 ∷ 0x74 ∷ []) (0x00 ∷ replicate 7 0x01)
          ++ map (λ b. 0x01 ∷ b ∷ 0x74 ∷ []) (0x82 ∷ 0x80 ∷ 0x82 ∷ 0x82 ∷ 0x82 ∷ 0x82 ∷ 0x82 ∷ 0x02 ∷ [])
          ++ map (λ b. 0x01 ∷ 0x82 ∷ b ∷ []) (0x74 ∷ 0x74 ∷ 0x70 ∷ 0x74 ∷ 0x64 ∷ 0x54 ∷ 0x34 ∷ 0x74 ∷ [])
          ),
    )
    ∷ (set_dot true 12 (0x01 ∷ 0x82 ∷ 0x74 ∷ []), 0x01 ∷ 0x92 ∷ 0x74 ∷ [])
    ∷ (set_dot false 15 (0x01 ∷ 0x82 ∷ 0x74 ∷ []), 0x01 ∷ 0x02 ∷ 0x74 ∷ [])
    -- the dots of a list
    ∷ (paint true [] (7 ∷ 8 ∷ []), 7 ∷ 8 ∷ [])
    ∷ (paint true (1 ∷ 99 ∷ 9 ∷ 15 ∷ 1 ∷ 0 ∷ []) (4 ∷ 4 ∷ []), 7 ∷ 134 ∷ [])
    ∷ (paint false (1 ∷ 99 ∷ 9 ∷ 15 ∷ 1 ∷ 0 ∷ []) (255 ∷ 255 ∷ []), 252 ∷ 125 ∷ [])
    ∷ (map told (has 3 [] ∷ has 0 [] ∷ []), 0 ∷ 0 ∷ [])
    ∷ (each (λ d. told (has d (3 ∷ 5 ∷ 3 ∷ 8 ∷ []))) 0 10, 0 ∷ 0 ∷ 0 ∷ 1 ∷ 0 ∷ 1 ∷ 0 ∷ 0 ∷ 1 ∷ 0 ∷ [])
    -- the dots of the k steps from step i on, in order
    ∷ (gathered (λ i. i ∷ (i + 100) ∷ []) 3 4, 3 ∷ 103 ∷ 4 ∷ 104 ∷ 5 ∷ 105 ∷ 6 ∷ 106 ∷ [])
    ∷ (gathered (λ i. replicate i i) 0 4, 1 ∷ 2 ∷ 2 ∷ 3 ∷ 3 ∷ 3 ∷ [])
    ∷ (gathered (λ i. i ∷ []) 9 0, [])
    ∷ (gathered (λ i. i ∷ []) 9 1, 9 ∷ [])
    ∷ (gathered (λ i. i ∷ []) 250 10 ++ gathered (λ i. i ∷ []) 4090 10, from 250 10 ++ from 4090 10)
    -- as many steps as the largest character has cycles; as many dots painted, and looked through
    ∷ (gathered (λ i. i ∷ []) 0 12288, from 0 12288)
    ∷ (paint true (0 ∷ replicate 12287 1) (0 ∷ []) ++ paint false (0 ∷ replicate 12287 1) (255 ∷ []), 3 ∷ 252 ∷ [])
    ∷ (map told (has 7 (7 ∷ replicate 12287 1) ∷ has 7 (replicate 12287 1 ++ (7 ∷ [])) ∷ has 7 (replicate 12288 1) ∷ []), 1 ∷ 1 ∷ 0 ∷ [])
    -- a whole picture lit, dark
    ∷ (solid true ∷ solid false ∷ [], 255 ∷ 0 ∷ [])
    ∷ (whole true (1 ∷ 2 ∷ 3 ∷ []), 255 ∷ 255 ∷ 255 ∷ [])
    ∷ (whole false (1 ∷ 2 ∷ 3 ∷ 4 ∷ []), 0 ∷ 0 ∷ 0 ∷ 0 ∷ [])
    ∷ (whole true [] ++ whole false [], [])
    ∷ (whole true (255 ∷ 0 ∷ 255 ∷ 7 ∷ []) ++ whole false (0 ∷ 255 ∷ 0 ∷ 7 ∷ []), 255 ∷ 255 ∷ 255 ∷ 255 ∷ 0 ∷ 0 ∷ 0 ∷ 0 ∷ [])
    -- the largest picture, of 32,768 bytes: whole, and its last dots
    ∷ (whole true (replicate 32768 1) ++ whole false (replicate 32768 1), replicate 32768 255 ++ replicate 32768 0)
    ∷ (
      set_dot true 262143 (replicate 32768 0) ++ set_dot true 131072 (replicate 32768 0),
      replicate 32767 0 ++ (128 ∷ (replicate 16384 0 ++ (1 ∷ replicate 16383 0))),
    )
    ∷ (
      map (λ d. told (dot_at (replicate 16384 0 ++ replicate 16384 255) d)) (0 ∷ 2048 ∷ 65536 ∷ 131071 ∷ 131072 ∷ 196608 ∷ 262143 ∷ 262144 ∷ []),
      0 ∷ 0 ∷ 0 ∷ 0 ∷ 1 ∷ 1 ∷ 1 ∷ 0 ∷ [],
    )
    ∷ []

unfoldable pub screen : ℕ → ℕ → Bool → Window
screen w h cyclic = record { width = w; height = h; cyclic = cyclic }

-- the dot of a position, its number and 1 more; 0 where there is none
unfoldable pub dot_or : List ℕ → ℕ
dot_or [] = 0
dot_or (d ∷ ds) = d + 1 + dot_or ds

-- the positions x from 0 to 19 of each line y from 0 to 9
unfoldable pub lines : Window → List ℕ
lines w = joined (λ y. each (λ x. dot_or (place w x y)) 0 20) 0 10

-- positions about the edges of a window
unfoldable pub edges : List ℕ
edges = 0 ∷ 255 ∷ 256 ∷ 511 ∷ 512 ∷ 4095 ∷ []

-- those X on a line
unfoldable pub along : Window → ℕ → List ℕ
along w y = map (λ x. dot_or (place w x y)) edges

-- dot (X, Y) is bit X mod 8 of byte Y × (width / 8) + X / 8; outside there is none; cyclic, upper bits are ignored
unfoldable pub places : List Reading
places =
    (dot_number 512 300 100 ∷ dot_number 512 511 0 ∷ dot_number 512 0 1 ∷ dot_number 256 255 255 ∷ [], 51500 ∷ 511 ∷ 512 ∷ 65535 ∷ [])
    ∷ (each (folded true 8) 0 24, again 3 (from 0 8))
    ∷ (each (folded false 8) 0 24, from 0 24)
    ∷ (map (folded true 512) edges, 0 ∷ 255 ∷ 256 ∷ 511 ∷ 0 ∷ 511 ∷ [])
    ∷ (map (folded false 512) edges, 0 ∷ 255 ∷ 256 ∷ 511 ∷ 512 ∷ 4095 ∷ [])
    -- a window of 8 by 4, all of it and past it; a window of 4 by 8
    ∷ (lines (screen 8 4 false), joined (λ y. from (8 * y + 1) 8 ++ replicate 12 0) 0 4 ++ replicate 120 0)
    ∷ (
      lines (screen 8 4 true),
      again 2 (joined (λ y. again 2 (from (8 * y + 1) 8) ++ from (8 * y + 1) 4) 0 4)
          ++ joined (λ y. again 2 (from (8 * y + 1) 8) ++ from (8 * y + 1) 4) 0 2,
    )
    ∷ (lines (screen 4 8 false), joined (λ y. from (4 * y + 1) 4 ++ replicate 16 0) 0 8 ++ replicate 40 0)
    ∷ (lines (screen 4 8 true), joined (λ y. again 5 (from (4 * y + 1) 4)) 0 8 ++ joined (λ y. again 5 (from (4 * y + 1) 4)) 0 2)
    -- 512 by 256, at its edges
    ∷ (along (screen 512 256 false) 0, 1 ∷ 256 ∷ 257 ∷ 512 ∷ 0 ∷ 0 ∷ [])
    ∷ (along (screen 512 256 false) 255, 130561 ∷ 130816 ∷ 130817 ∷ 131072 ∷ 0 ∷ 0 ∷ [])
    ∷ (along (screen 512 256 false) 256 ++ along (screen 512 256 false) 4095, replicate 12 0)
    ∷ (along (screen 512 256 true) 0, 1 ∷ 256 ∷ 257 ∷ 512 ∷ 1 ∷ 512 ∷ [])
    ∷ (along (screen 512 256 true) 256, 1 ∷ 256 ∷ 257 ∷ 512 ∷ 1 ∷ 512 ∷ [])
    ∷ (along (screen 512 256 true) 4095, 130561 ∷ 130816 ∷ 130817 ∷ 131072 ∷ 130561 ∷ 131072 ∷ [])
    -- 512 by 512: the lines from 256 on
    ∷ (along (screen 512 512 false) 256, 131073 ∷ 131328 ∷ 131329 ∷ 131584 ∷ 0 ∷ 0 ∷ [])
    ∷ (along (screen 512 512 false) 511, 261633 ∷ 261888 ∷ 261889 ∷ 262144 ∷ 0 ∷ 0 ∷ [])
    ∷ (along (screen 512 512 false) 512 ++ along (screen 512 512 false) 4095, replicate 12 0)
    ∷ (along (screen 512 512 true) 4095, 261633 ∷ 261888 ∷ 261889 ∷ 262144 ∷ 261633 ∷ 262144 ∷ [])
    ∷ (along (screen 512 512 true) 512, 1 ∷ 256 ∷ 257 ∷ 512 ∷ 1 ∷ 512 ∷ [])
    ∷ (along (screen 256 256 false) 1, 257 ∷ 512 ∷ 0 ∷ 0 ∷ 0 ∷ 0 ∷ [])
    ∷ (along (screen 256 256 true) 257, 257 ∷ 512 ∷ 257 ∷ 512 ∷ 257 ∷ 512 ∷ [])
    ∷ []
