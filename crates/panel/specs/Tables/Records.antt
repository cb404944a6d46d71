-- What lines mean: every kind of record, and each way to be malformed. 9 is the tab, 48 to 57 are the digits, 65 to 70 A to F;
-- L, R, T, V and W are 76, 82, 84, 86 and 87.
-- Assumes nothing.
use Rattle.std.specs.Prelude.{ℕ, ◌+◌, ◌*◌, ◌/◌, ◌%◌, List, [], ◌∷◌, ◌++◌, get_or, replicate}
use Rattle.basis.specs.Reading.{Reading, each, joined, told}
use Rattle.panel.specs.Record.{Record, Write, Read, Cycles, Blanking, Edge, Malformed}
use Rattle.panel.specs.Record.{letter_of, record_of}

-- a record as three numbers: 1 for W, 2 R, 3 T, 4 V, 5 L, with its own two; a malformed line is three zeros
unfoldable pub record_row : Record → List ℕ
record_row (Write a v) = 1 ∷ a ∷ v ∷ []
record_row (Read a) = 2 ∷ a ∷ 0 ∷ []
record_row (Cycles n) = 3 ∷ n ∷ 0 ∷ []
record_row (Blanking level) = 4 ∷ told level ∷ 0 ∷ []
record_row (Edge h v) = 5 ∷ h ∷ v ∷ []
record_row Malformed = 0 ∷ 0 ∷ 0 ∷ []

-- the record of a line; of a letter with one field, with two
unfoldable pub line : List ℕ → List ℕ
line t = record_row (record_of t)

unfoldable pub one : ℕ → List ℕ → List ℕ
one l f = line (l ∷ 9 ∷ f)

unfoldable pub two : ℕ → List ℕ → List ℕ → List ℕ
two l f g = line (l ∷ 9 ∷ (f ++ (9 ∷ g)))

-- k malformed lines
unfoldable pub bad : ℕ → List ℕ
bad k = replicate (3 * k) 0

-- Letters -------------------------------------------------------------------------------------------------------------

unfoldable pub letters : List Reading
letters =
    -- every byte as a letter: with one field R, T and V are records, with two L and W, with none or three none is
    (joined (λ (l : ℕ). line (l ∷ [])) 0 256, bad 256)
    ∷ (
      joined (λ (l : ℕ). one l (49 ∷ [])) 0 256,
      bad 82 ++ ((2 ∷ 1 ∷ 0 ∷ []) ++ (bad 1 ++ ((3 ∷ 1 ∷ 0 ∷ []) ++ (bad 1 ++ ((4 ∷ 1 ∷ 0 ∷ []) ++ bad 169))))),
    )
    ∷ (joined (λ (l : ℕ). two l (49 ∷ []) (50 ∷ [])) 0 256, bad 76 ++ ((5 ∷ 1 ∷ 2 ∷ []) ++ (bad 10 ++ ((1 ∷ 1 ∷ 2 ∷ []) ++ bad 168))))
    ∷ (joined (λ (l : ℕ). two l (49 ∷ []) (50 ∷ 9 ∷ 51 ∷ [])) 0 256, bad 256)
    -- an empty field more, before, between or behind
    ∷ (joined (λ (l : ℕ). one l []) 0 256, bad 256)
    ∷ (joined (λ (l : ℕ). two l (49 ∷ []) []) 0 256, bad 256)
    ∷ (joined (λ (l : ℕ). two l [] (49 ∷ [])) 0 256, bad 256)
    ∷ (joined (λ (l : ℕ). two l [] []) 0 256, bad 256)
    ∷ (joined (λ (l : ℕ). two l (49 ∷ []) (50 ∷ 9 ∷ [])) 0 256, bad 256)
    ∷ (joined (λ (l : ℕ). line (9 ∷ l ∷ 9 ∷ 49 ∷ [])) 0 256, bad 256)
    -- a byte more behind the letter or before it; spaces for tabs; no field; only tabs
    ∷ (joined (λ (b : ℕ). line (82 ∷ b ∷ 9 ∷ 49 ∷ []) ++ line (b ∷ 84 ∷ 9 ∷ 49 ∷ [])) 0 256, bad 512)
    ∷ (joined (λ (b : ℕ). line (87 ∷ b ∷ 9 ∷ 49 ∷ 9 ∷ 50 ∷ []) ++ line (b ∷ 76 ∷ 9 ∷ 49 ∷ 9 ∷ 50 ∷ [])) 0 256, bad 512)
    ∷ (line (82 ∷ 32 ∷ 49 ∷ []) ++ (line [] ++ (line (9 ∷ []) ++ (line (9 ∷ 9 ∷ []) ++ line (9 ∷ 9 ∷ 9 ∷ [])))), bad 5)
    -- the letter is a first field of one byte
    ∷ (each (λ (b : ℕ). letter_of (b ∷ [])) 0 256, each (λ (b : ℕ). b) 0 256)
    ∷ (letter_of [] ∷ letter_of (87 ∷ 87 ∷ []) ∷ letter_of (82 ∷ 0 ∷ []) ∷ letter_of (84 ∷ 84 ∷ 84 ∷ []) ∷ [], 0 ∷ 0 ∷ 0 ∷ 0 ∷ [])
    ∷ []

-- Fields --------------------------------------------------------------------------------------------------------------

-- for every byte in a field, f of its value where it is a digit, else malformed: hex digits; decimal digits
unfoldable pub hexed : (ℕ → List ℕ) → List ℕ
hexed f = bad 48 ++ (joined f 0 10 ++ (bad 7 ++ (joined f 10 6 ++ bad 185)))

unfoldable pub tenned : (ℕ → List ℕ) → List ℕ
tenned f = bad 48 ++ (joined f 0 10 ++ bad 198)

-- a hex digit
unfoldable pub hex : ℕ → ℕ
hex d = get_or (48 ∷ 49 ∷ 50 ∷ 51 ∷ 52 ∷ 53 ∷ 54 ∷ 55 ∷ 56 ∷ 57 ∷ 65 ∷ 66 ∷ 67 ∷ 68 ∷ 69 ∷ 70 ∷ []) d 0

unfoldable pub field_readings : List Reading
field_readings =
    -- W: an address of one hex digit, a value of one or two
    (joined (λ (b : ℕ). two 87 (b ∷ []) (49 ∷ [])) 0 256, hexed (λ (d : ℕ). 1 ∷ d ∷ 1 ∷ []))
    ∷ (joined (λ (b : ℕ). two 87 (51 ∷ []) (b ∷ [])) 0 256, hexed (λ (d : ℕ). 1 ∷ 3 ∷ d ∷ []))
    ∷ (joined (λ (b : ℕ). two 87 (70 ∷ []) (b ∷ 50 ∷ [])) 0 256, hexed (λ (d : ℕ). 1 ∷ 15 ∷ (16 * d + 2) ∷ []))
    ∷ (joined (λ (b : ℕ). two 87 (48 ∷ []) (50 ∷ b ∷ [])) 0 256, hexed (λ (d : ℕ). 1 ∷ 0 ∷ (32 + d) ∷ []))
    ∷ (joined (λ (b : ℕ). two 87 (b ∷ 50 ∷ []) (49 ∷ []) ++ two 87 (48 ∷ b ∷ []) (49 ∷ [])) 0 256, bad 512)
    ∷ (joined (λ (b : ℕ). two 87 (49 ∷ []) (b ∷ 49 ∷ 50 ∷ []) ++ two 87 (49 ∷ []) (48 ∷ 49 ∷ b ∷ [])) 0 256, bad 512)
    -- every value in two digits
    ∷ (joined (λ (v : ℕ). two 87 (51 ∷ []) (hex (v / 16) ∷ hex (v % 16) ∷ [])) 0 256, joined (λ (v : ℕ). 1 ∷ 3 ∷ v ∷ []) 0 256)
    -- R: an address of one hex digit
    ∷ (joined (λ (b : ℕ). one 82 (b ∷ [])) 0 256, hexed (λ (d : ℕ). 2 ∷ d ∷ 0 ∷ []))
    ∷ (joined (λ (b : ℕ). one 82 (48 ∷ b ∷ []) ++ one 82 (b ∷ 49 ∷ [])) 0 256, bad 512)
    -- T: decimal digits
    ∷ (joined (λ (b : ℕ). one 84 (b ∷ [])) 0 256, tenned (λ (d : ℕ). 3 ∷ d ∷ 0 ∷ []))
    ∷ (joined (λ (b : ℕ). one 84 (b ∷ 50 ∷ [])) 0 256, tenned (λ (d : ℕ). 3 ∷ (10 * d + 2) ∷ 0 ∷ []))
    ∷ (joined (λ (b : ℕ). one 84 (50 ∷ b ∷ [])) 0 256, tenned (λ (d : ℕ). 3 ∷ (20 + d) ∷ 0 ∷ []))
    -- V: 0 or 1
    ∷ (joined (λ (b : ℕ). one 86 (b ∷ [])) 0 256, bad 48 ++ ((4 ∷ 0 ∷ 0 ∷ 4 ∷ 1 ∷ 0 ∷ []) ++ bad 206))
    ∷ (joined (λ (b : ℕ). one 86 (48 ∷ b ∷ []) ++ one 86 (b ∷ 48 ∷ [])) 0 256, bad 512)
    -- L: decimal digits in both
    ∷ (joined (λ (b : ℕ). two 76 (b ∷ []) (55 ∷ [])) 0 256, tenned (λ (d : ℕ). 5 ∷ d ∷ 7 ∷ []))
    ∷ (joined (λ (b : ℕ). two 76 (55 ∷ []) (b ∷ [])) 0 256, tenned (λ (d : ℕ). 5 ∷ 7 ∷ d ∷ []))
    ∷ (joined (λ (b : ℕ). two 76 (49 ∷ b ∷ []) (50 ∷ 49 ∷ [])) 0 256, tenned (λ (d : ℕ). 5 ∷ (10 + d) ∷ 21 ∷ []))
    ∷ (joined (λ (b : ℕ). two 76 (49 ∷ 50 ∷ []) (b ∷ 57 ∷ [])) 0 256, tenned (λ (d : ℕ). 5 ∷ 12 ∷ (10 * d + 9) ∷ []))
    ∷ []

-- Lengths and limits --------------------------------------------------------------------------------------------------

-- a digit 1 behind k zeros
unfoldable pub long : ℕ → List ℕ
long k = replicate k 48 ++ (49 ∷ [])

-- a number below 1,000 in three digits
unfoldable pub three : ℕ → List ℕ
three n = (48 + n / 100) ∷ (48 + n / 10 % 10) ∷ (48 + n % 10) ∷ []

unfoldable pub limits : List Reading
limits =
    -- one digit for an address and for V, one or two for a value, one to three for h and v, one to five for cycles
    (joined (λ (k : ℕ). two 87 (long k) (49 ∷ [])) 0 7, (1 ∷ 1 ∷ 1 ∷ []) ++ bad 6)
    ∷ (joined (λ (k : ℕ). two 87 (49 ∷ []) (long k)) 0 7, (1 ∷ 1 ∷ 1 ∷ 1 ∷ 1 ∷ 1 ∷ []) ++ bad 5)
    ∷ (joined (λ (k : ℕ). one 82 (long k)) 0 7, (2 ∷ 1 ∷ 0 ∷ []) ++ bad 6)
    ∷ (joined (λ (k : ℕ). one 84 (long k)) 0 7, joined (λ (k : ℕ). 3 ∷ 1 ∷ 0 ∷ []) 0 5 ++ bad 2)
    ∷ (joined (λ (k : ℕ). one 86 (long k)) 0 7, (4 ∷ 1 ∷ 0 ∷ []) ++ bad 6)
    ∷ (joined (λ (k : ℕ). two 76 (long k) (50 ∷ [])) 0 7, joined (λ (k : ℕ). 5 ∷ 1 ∷ 2 ∷ []) 0 3 ++ bad 4)
    ∷ (joined (λ (k : ℕ). two 76 (50 ∷ []) (long k)) 0 7, joined (λ (k : ℕ). 5 ∷ 2 ∷ 1 ∷ []) 0 3 ++ bad 4)
    -- at most 65,535 cycles: 65,534, 65,535, 65,536, 65,540, 65,600, 66,000, 70,000, 99,999
    ∷ (one 84 (54 ∷ 53 ∷ 53 ∷ 51 ∷ 52 ∷ []) ++ one 84 (54 ∷ 53 ∷ 53 ∷ 51 ∷ 53 ∷ []), 3 ∷ 65534 ∷ 0 ∷ 3 ∷ 65535 ∷ 0 ∷ [])
    ∷ (
      one 84 (54 ∷ 53 ∷ 53 ∷ 51 ∷ 54 ∷ []) ++ (one 84 (54 ∷ 53 ∷ 53 ∷ 52 ∷ 48 ∷ []) ++ (one 84 (54 ∷ 53 ∷ 54 ∷ 48 ∷ 48 ∷ [])
          ++ (one 84 (54 ∷ 54 ∷ 48 ∷ 48 ∷ 48 ∷ []) ++ (one 84 (55 ∷ 48 ∷ 48 ∷ 48 ∷ 48 ∷ []) ++ one 84 (57 ∷ 57 ∷ 57 ∷ 57 ∷ 57 ∷ []))))),
      bad 6,
    )
    -- h and v of at most 255
    ∷ (joined (λ (n : ℕ). two 76 (three n) (55 ∷ [])) 0 300, joined (λ (n : ℕ). 5 ∷ n ∷ 7 ∷ []) 0 256 ++ bad 44)
    ∷ (joined (λ (n : ℕ). two 76 (55 ∷ []) (three n)) 0 300, joined (λ (n : ℕ). 5 ∷ 7 ∷ n ∷ []) 0 256 ++ bad 44)
    ∷ (two 76 (three 255) (three 255) ++ (two 76 (three 256) (three 256) ++ (two 76 (three 999) (three 1) ++ two 76 (three 1) (three 999))), 5 ∷ 255 ∷ 255 ∷ bad 3)
    -- capital hex digits in every place of a write
    ∷ (two 87 (65 ∷ []) (66 ∷ 67 ∷ []) ++ (two 87 (97 ∷ []) (66 ∷ 67 ∷ []) ++ (two 87 (65 ∷ []) (98 ∷ 67 ∷ []) ++ two 87 (65 ∷ []) (66 ∷ 99 ∷ []))), 1 ∷ 10 ∷ 188 ∷ bad 3)
    ∷ []
