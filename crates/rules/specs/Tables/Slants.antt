-- Slanted characters, request c) of document 02: tilt each way, played on a card. Each row's right side was worked out by hand
-- from the formulas: (X + u + v, Y + v), and upwards (X − v, Y + u + v). A few rows are whole pictures, low on the screen; the
-- others are the written dots in the order of their cycles.
-- Assumes nothing.
use Rattle.std.specs.Prelude.{ℕ, zero, suc, ◌-◌, List, [], ◌∷◌, ◌++◌, replicate}
use Rattle.basis.specs.Reading.{Reading, joined}
use Rattle.parts.specs.declared.format.Format.TheVariants.{Ef9366}
use Rattle.rules.specs.State.{fresh}
use Rattle.rules.specs.Figure.{tables}
use Rattle.rules.specs.Cycles.{dots}
use Rattle.rules.specs.Calls.{memory}
use Rattle.rules.specs.Card.{Card, Event, W, R, T, VB, LP, next}
use Rattle.rules.specs.Tables.Play.{said, drawn, ends, dark, row, box, numbers, just}
use Rattle.rules.specs.Tables.Readings.{card, pen, cyclic_pen, from, draw}
use Rattle.rules.specs.Tables.MoreReadings.{lettered, letter}
use Rattle.rules.specs.Tables.FreeRows.{all_dots}

-- m lines of n dots, each one further than the one below; m columns of n dots, each one to the left and one further up
unfoldable pub slope : ℕ → ℕ → ℕ → ℕ → List (ℕ × ℕ)
slope x y n zero = []
slope x y n (suc m) = row x y n ++ slope (suc x) (suc y) n m

unfoldable pub column : ℕ → ℕ → ℕ → List (ℕ × ℕ)
column x y zero = []
column x y (suc n) = (x, y) ∷ column x (suc y) n

unfoldable pub climb : ℕ → ℕ → ℕ → ℕ → List (ℕ × ℕ)
climb x y n zero = []
climb x y n (suc m) = column x y n ++ climb (x - 1) (suc y) n m

-- the same n by m dots as cycles go, column by column: n lines of m dots up to the right, and n up to the left
unfoldable pub slopes : ℕ → ℕ → ℕ → ℕ → List (ℕ × ℕ)
slopes x y zero m = []
slopes x y (suc n) m = slope x y 1 m ++ slopes (suc x) y n m

unfoldable pub climbs : ℕ → ℕ → ℕ → ℕ → List (ℕ × ℕ)
climbs x y zero m = []
climbs x y (suc n) m = climb x y 1 m ++ climbs x (suc y) n m

-- the dots that an event writes that is not refused, and those of some events, one after the other
unfoldable pub marks : Card → Event → List ℕ
marks c (W a v) = []
marks c (R a) = []
marks c (T n) = dots c.state c.tables n
marks c (VB level) = []
marks c (LP h v) = []

unfoldable pub marked : Card → List Event → List ℕ
marked c [] = []
marked c (e ∷ es) = marks c e ++ marked (next c e) es

-- a table with the letter F as code 46: a stem of seven rows above the bottom one, an arm of five dots and one of three
unfoldable pub with_f : Card
with_f =
    record {
      state = fresh Ef9366;
      memory = memory (dark Ef9366);
      tables = tables (replicate 190 0 ++ ((0xFE ∷ 0x90 ∷ 0x90 ∷ 0x80 ∷ 0x80 ∷ []) ++ replicate 285 0));
    }

-- it at P = 1 and Q = 2 from (100, 2)
unfoldable pub f : ℕ → List Event
f ctrl2 = pen (from 100 2 (W 2 ctrl2 ∷ W 3 0x12 ∷ W 0 0x46 ∷ T 65535 ∷ []))

-- code 41 of `letter`, P = 2 and Q = 3, from a place, so many cycles of it
unfoldable pub some : ℕ → ℕ → ℕ → ℕ → List Event
some ctrl2 x y n = from x y (W 2 ctrl2 ∷ W 3 0x23 ∷ W 0 0x41 ∷ T n ∷ [])

-- 0A or 0B of a CSIZE from (50, 2)
unfoldable pub solid : ℕ → ℕ → ℕ → List Event
solid ctrl2 csize code = pen (from 50 2 (W 2 ctrl2 ∷ W 3 csize ∷ W 0 code ∷ T 65535 ∷ []))

-- whole characters
unfoldable pub slanted : List Reading
slanted =
    -- a letter, all four ways, whole pictures: its stem, the shorter arm, the stem again, the longer arm
    (drawn with_f (f 0), just Ef9366 (box 100 4 1 6 ++ (box 100 10 3 2 ++ (box 100 12 1 4 ++ box 100 16 5 2))))
    ∷ (drawn with_f (f 4), just Ef9366 (slope 102 4 1 6 ++ (slope 108 10 3 2 ++ (slope 110 12 1 4 ++ slope 114 16 5 2))))
    ∷ (drawn with_f (f 8), just Ef9366 (box 93 2 6 1 ++ (box 91 2 2 3 ++ (box 87 2 4 1 ++ box 85 2 2 5))))
    ∷ (drawn with_f (f 12), just Ef9366 (climb 98 4 1 6 ++ (climb 92 10 3 2 ++ (climb 90 12 1 4 ++ climb 86 16 5 2))))
    -- P = 2 and Q = 3: a dot of the glyph is itself slanted; cycles and ends are as straight
    ∷ (marked lettered (letter 4), numbers Ef9366 (slopes 100 50 2 3 ++ (slopes 123 71 2 3 ++ slopes 111 53 2 3)))
    ∷ (said lettered (letter 4) ++ ends lettered (letter 4), 288 ∷ 112 ∷ 50 ∷ [])
    ∷ (marked lettered (letter 12), numbers Ef9366 (climbs 100 50 2 3 ++ (climbs 79 73 2 3 ++ climbs 97 61 2 3)))
    ∷ (said lettered (letter 12) ++ ends lettered (letter 12), 288 ∷ 100 ∷ 62 ∷ [])
    -- the line type has no effect on it
    ∷ (marked lettered (letter 7), numbers Ef9366 (slopes 100 50 2 3 ++ (slopes 123 71 2 3 ++ slopes 111 53 2 3)))
    -- 0A and 0B are slanted too; of these the block along X is a whole picture
    ∷ (marked card (solid 4 0x12 0x0A), numbers Ef9366 (slopes 50 2 5 16))
    ∷ (marked card (solid 12 0x12 0x0A), numbers Ef9366 (climbs 50 2 5 16))
    ∷ (drawn card (solid 4 0x21 0x0B), just Ef9366 (slope 50 2 8 4))
    ∷ (marked card (solid 12 0x21 0x0B), numbers Ef9366 (climbs 50 2 8 4))
    ∷ (
      said card (solid 4 0x21 0x0B) ++ (ends card (solid 4 0x21 0x0B) ++ (said card (solid 12 0x12 0x0A) ++ ends card (solid 12 0x12 0x0A))),
      32 ∷ 58 ∷ 2 ∷ 96 ∷ 50 ∷ 8 ∷ [],
    )
    -- with the eraser 0A takes a slanted letter away, at P = 2 and Q = 1
    ∷ (drawn with_f (pen (from 100 2 (W 2 4 ∷ W 3 0x21 ∷ W 0 0x46 ∷ T 65535 ∷ W 1 1 ∷ from 100 2 (W 0 0x0A ∷ T 65535 ∷ [])))), dark Ef9366)
    -- idle, every character command is taken, none refused with 7; while one runs 6, and at C 5
    ∷ (
      said card (W 2 4 ∷ W 0 0x20 ∷ T 99 ∷ W 0 0x7F ∷ T 99 ∷ W 0 0x0A ∷ T 99 ∷ W 0 0x0B ∷ T 99 ∷ R 0 ∷ W 0 0x41 ∷ W 0 0x41 ∷ W 0xC 0 ∷ R 0 ∷ []),
      48 ∷ 48 ∷ 48 ∷ 16 ∷ 0x05 ∷ 1006 ∷ 1005 ∷ 0x01 ∷ [],
    )
    ∷ []

-- parts of them
unfoldable pub slant_parts : List Reading
slant_parts =
    -- the first dots are written, and X and Y stand on the slanted place of the next
    (marked lettered (pen (some 4 100 50 2)), numbers Ef9366 ((100, 50) ∷ (101, 51) ∷ []))
    ∷ (ends card (some 4 100 50 2) ++ ends card (some 4 100 50 24), 102 ∷ 52 ∷ 101 ∷ 50 ∷ [])
    ∷ (marked lettered (pen (some 4 100 50 49)), numbers Ef9366 (slopes 100 50 2 3))
    ∷ (ends card (some 4 100 50 49) ++ ends card (some 4 100 50 287), 103 ∷ 51 ∷ 134 ∷ 73 ∷ [])
    ∷ (marked lettered (pen (some 12 100 50 2)), numbers Ef9366 ((100, 50) ∷ (99, 51) ∷ []))
    ∷ (ends card (some 12 100 50 2) ++ ends card (some 12 100 50 24), 98 ∷ 52 ∷ 100 ∷ 51 ∷ [])
    ∷ (ends card (some 12 100 50 49) ++ ends card (some 12 100 50 287), 99 ∷ 53 ∷ 77 ∷ 84 ∷ [])
    -- in portions as at once: the dots, and upwards a whole picture
    ∷ (
      marked lettered (pen (some 4 100 50 11 ++ (T 40 ∷ T 65535 ∷ []))),
      numbers Ef9366 (slopes 100 50 2 3 ++ (slopes 123 71 2 3 ++ slopes 111 53 2 3)),
    )
    ∷ (
      drawn lettered (pen (some 12 100 2 11 ++ (T 40 ∷ T 65535 ∷ []))),
      just Ef9366 (climb 100 2 2 3 ++ (climb 79 25 2 3 ++ climb 97 13 2 3)),
    )
    ∷ []

-- at the edges of the window, and of the twelve bits
unfoldable pub slant_edges : List Reading
slant_edges =
    -- at the right edge each dot is clipped by itself; on a cyclic screen it comes in again, a whole picture
    (marked lettered (pen (some 4 509 2 65535)), numbers Ef9366 (slope 509 2 1 3 ++ slope 510 2 1 2))
    ∷ (
      drawn lettered (cyclic_pen (some 4 509 2 65535)),
      just Ef9366 (row 509 2 2 ++ (row 510 3 2 ++ (row 511 4 1 ++ (row 0 4 1 ++ (slope 20 23 2 3 ++ slope 8 5 2 3))))),
    )
    ∷ (ends card (some 4 509 2 65535), 521 ∷ 2 ∷ [])
    -- upwards at the top
    ∷ (marked lettered (pen (some 12 100 253 65535)), numbers Ef9366 (climb 100 253 1 3 ++ climb 100 254 1 2))
    ∷ (
      marked lettered (cyclic_pen (some 12 100 253 65535)),
      numbers Ef9366 (climb 100 253 1 3 ++ (climb 100 254 1 2 ++ ((98, 0) ∷ (climbs 79 20 2 3 ++ climbs 97 8 2 3)))),
    )
    -- around 4,096 in both: the first dot of the glyph is outside, the others come in; on a cyclic screen it is inside too
    ∷ (marked lettered (pen (some 4 4090 4094 65535)), numbers Ef9366 (slopes 17 19 2 3 ++ slopes 5 1 2 3))
    ∷ (
      marked lettered (cyclic_pen (some 4 4090 4094 65535)),
      numbers Ef9366 (slope 506 254 1 2 ++ ((508, 0) ∷ (slope 507 254 1 2 ++ ((509, 0) ∷ (slopes 17 19 2 3 ++ slopes 5 1 2 3))))),
    )
    ∷ (ends card (some 4 4090 4094 21) ++ (ends card (some 4 4090 4094 24) ++ ends card (some 4 4090 4094 65535)), 15 ∷ 19 ∷ 4091 ∷ 4094 ∷ 6 ∷ 4094 ∷ [])
    ∷ (marked lettered (pen (some 12 2 4094 65535)), numbers Ef9366 ((0, 0) ∷ (1, 0) ∷ (0, 1) ∷ []))
    ∷ (
      marked lettered (cyclic_pen (some 12 2 4094 65535)),
      numbers Ef9366 (climb 2 254 1 2 ++ ((0, 0) ∷ (2, 255) ∷ (1, 0) ∷ (0, 1) ∷ (climbs 493 21 2 3 ++ climbs 511 9 2 3))),
    )
    ∷ (ends card (some 12 2 4094 3) ++ (ends card (some 12 2 4094 24) ++ ends card (some 12 2 4094 65535)), 4095 ∷ 1 ∷ 2 ∷ 4095 ∷ 2 ∷ 10 ∷ [])
    ∷ []

-- tilt with vectors, 18 to 1F and line type 3 among them: as without
unfoldable pub untilted : List Reading
untilted =
    (joined (all_dots 0x07) 0x10 16, joined (all_dots 0x03) 0x10 16)
    ∷ (joined (all_dots 0x0F) 0xE0 32, joined (all_dots 0x03) 0xE0 32)
    ∷ (drawn card (pen (W 2 0xF ∷ draw 37 0 0x10)), just Ef9366 (row 0 0 10 ++ (row 12 0 2 ++ (row 16 0 10 ++ (row 28 0 2 ++ row 32 0 6)))))
    ∷ (ends card (pen (from 20 20 (W 2 4 ∷ draw 4 9 0x1B))) ++ said card (pen (W 2 0xC ∷ draw 1 9 0x18)), 11 ∷ 29 ∷ 10 ∷ [])
    ∷ []
