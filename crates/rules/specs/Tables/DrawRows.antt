-- Granted cycles on running commands: the used number, the whole row after them, and the dots; every code's cycles and its end.
-- Assumes nothing.
use Rattle.std.specs.Prelude.{ℕ, ◌+◌, ◌-◌, ◌*◌, ◌/◌, ◌%◌, min, max, Bool, true, false, cond, ◌&&◌, List, [], ◌∷◌, ◌++◌, ltb, leb, length, get_or, replicate, take, drop}
use Rattle.basis.specs.Reading.{Reading, each, joined, told}
use Rattle.parts.specs.declared.format.Format.TheVariants.{Ef9366}
use Rattle.rules.specs.Figure.{Tables, tables, lie, glyph}
use Rattle.rules.specs.Cycles.{left, used, dots, after, pen_down, lights, cyclic, tip}
use Rattle.rules.specs.Tables.Rows.{but, stated, shown, rich}

-- a table of the numbers 0 to 479, and one whose glyph of code 41 has bits of its own in each column: 01, 82, 00, 40, 18
unfoldable pub counted : Tables
counted = tables (each (λ n. n) 0 480)

unfoldable pub lettered : Tables
lettered = tables (replicate 165 0 ++ (0x01 ∷ 0x82 ∷ 0x00 ∷ 0x40 ∷ 0x18 ∷ replicate 310 0))

-- n cycles granted to the state of a row: used, row, dots
unfoldable pub granting : List ℕ → Tables → ℕ → List ℕ
granting r t n = used (stated r) n ∷ shown (after (stated r) n) ++ dots (stated r) t n

-- grants of all these sizes
unfoldable pub sizes : List ℕ
sizes = 0 ∷ 1 ∷ 2 ∷ 3 ∷ 5 ∷ 6 ∷ 7 ∷ 65535 ∷ []

unfoldable pub size : ℕ → ℕ
size k = get_or sizes k 0

-- code 11 by 5 and 2 from (10, 20), with p cycles used; CTRL1 is c1 and CTRL2 0A, so the line type is four on, four off
unfoldable pub stroke : ℕ → ℕ → ℕ → ℕ → List ℕ
stroke c1 p x y = but 1 c1 (but 4 5 (but 5 2 (but 6 x (but 7 y (but 10 1 (but 11 0x11 (but 12 p rich)))))))

unfoldable pub stroke_x : ℕ → ℕ
stroke_x i = get_or (10 ∷ 11 ∷ 12 ∷ 13 ∷ 14 ∷ 15 ∷ []) i 15

unfoldable pub stroke_y : ℕ → ℕ
stroke_y i = get_or (20 ∷ 20 ∷ 21 ∷ 21 ∷ 22 ∷ 22 ∷ []) i 22

-- the first four of its dots are on
unfoldable pub stroke_dots : ℕ → ℕ → List ℕ
stroke_dots p n = take (min 4 (p + n) - p) (drop p (10250 ∷ 10251 ∷ 10764 ∷ 10765 ∷ []))

-- with CTRL1 bit 6 the end raises ready's flag
unfoldable pub stroke_after : ℕ → ℕ → ℕ → List ℕ
stroke_after c1 p n =
    cond (ltb (p + n) 6) (stroke c1 (p + n) (stroke_x (p + n)) (stroke_y (p + n)))
    (but 19 (c1 / 64) (but 10 0 (but 11 0 (but 12 0 (stroke c1 0 15 22)))))

unfoldable pub strokes : ℕ → Bool → List Reading
strokes c1 down = (
  joined (λ p. joined (λ k. granting (stroke c1 p (stroke_x p) (stroke_y p)) counted (size k)) 0 8) 0 6,
  joined (λ p. joined (λ k.
      min (size k) (6 - p) ∷ stroke_after c1 p (size k) ++ cond down (stroke_dots p (size k)) []) 0 8) 0 6,
)
    ∷ []

-- code 10 by 12 from (10, 20) under each of the 16 values of CTRL2: its dots, by the line type of bits 0 and 1 alone
unfoldable pub dashed : ℕ → List ℕ
dashed c2 = dots (stated (but 1 0x03 (but 2 c2 (but 4 12 (but 6 10 (but 7 20 (but 10 1 (but 11 0x10 rich)))))))) counted 65535

unfoldable pub four_types : List ℕ
four_types =
    each (λ i. 10250 + i) 0 13
    ++ (10250 ∷ 10251 ∷ 10254 ∷ 10255 ∷ 10258 ∷ 10259 ∷ 10262 ∷ [])
    ++ (10250 ∷ 10251 ∷ 10252 ∷ 10253 ∷ 10258 ∷ 10259 ∷ 10260 ∷ 10261 ∷ [])
    ++ (each (λ i. 10250 + i) 0 10 ++ (10262 ∷ []))

unfoldable pub line_type_rows : List Reading
line_type_rows = (joined dashed 0 16, joined (λ i. four_types) 0 4) ∷ []

-- how much further row v lies with bit 2 of CTRL2 high
unfoldable pub lean : ℕ → ℕ → ℕ
lean c2 v = cond (ltb (c2 % 8) 4) 0 v

-- code 41 at CSIZE 21, twice as wide as high, from (100, 50): column u and row v of cycle i, CTRL2 02, 06 (tilted), 0A (upwards), 0E
unfoldable pub letter : ℕ → ℕ → ℕ → ℕ → List ℕ
letter c2 p x y = but 2 c2 (but 3 0x21 (but 6 x (but 7 y (but 10 1 (but 11 0x41 (but 12 p rich))))))

unfoldable pub letter_at : ℕ → ℕ → List ℕ
letter_at c2 p =
    cond (ltb c2 8) (letter c2 p (100 + p / 8 + lean c2 (p % 8)) (50 + p % 8)) (letter c2 p (100 - p % 8) (50 + p / 8 + lean c2 (p % 8)))

unfoldable pub letter_after : ℕ → ℕ → ℕ → List ℕ
letter_after c2 p n =
    cond (ltb (p + n) 96) (letter_at c2 (p + n))
    (but 19 1 (but 10 0 (but 11 0 (but 12 0 (cond (ltb c2 8) (letter c2 0 112 50) (letter c2 0 100 62))))))

-- its dots: each of the glyph's twice along the writing, by column u and row v
unfoldable pub inks : List (ℕ × ℕ)
inks = (0, 0) ∷ (1, 0) ∷ (2, 1) ∷ (2, 7) ∷ (3, 1) ∷ (3, 7) ∷ (6, 6) ∷ (7, 6) ∷ (8, 3) ∷ (8, 4) ∷ (9, 3) ∷ (9, 4) ∷ []

unfoldable pub ink_dots : ℕ → List (ℕ × ℕ) → ℕ → ℕ → List ℕ
ink_dots c2 [] p n = []
ink_dots c2 (d ∷ ds) p n =
    cond (leb p (8 * d.0 + d.1) && ltb (8 * d.0 + d.1) (p + n))
    (cond (ltb c2 8) ((50 + d.1) * 512 + 100 + d.0 + lean c2 d.1) ((50 + d.0 + lean c2 d.1) * 512 + 100 - d.1) ∷ [])
    []
    ++ ink_dots c2 ds p n

unfoldable pub letter_size : ℕ → ℕ
letter_size k = get_or (0 ∷ 1 ∷ 7 ∷ 9 ∷ 33 ∷ 95 ∷ 96 ∷ 65535 ∷ []) k 0

unfoldable pub letter_from : ℕ → ℕ
letter_from k = get_or (0 ∷ 3 ∷ 8 ∷ 50 ∷ 95 ∷ []) k 0

unfoldable pub letters : ℕ → List Reading
letters c2 = (
  joined (λ j. joined (λ k. granting (letter_at c2 (letter_from j)) lettered (letter_size k)) 0 8) 0 5,
  joined (λ j. joined (λ k.
      min (letter_size k) (96 - letter_from j)
      ∷ letter_after c2 (letter_from j) (letter_size k) ++ ink_dots c2 inks (letter_from j) (letter_size k)) 0 8) 0 5,
)
    ∷ []

-- a running command of any code, none of its cycles used, from (300, 200) by 5 and 9 at CSIZE 23; P is 2 and Q is 3
unfoldable pub any : ℕ → ℕ → List ℕ
any c2 c = but 1 0x43 (but 2 c2 (but 4 5 (but 5 9 (but 6 300 (but 7 200 (but 10 1 (but 11 c rich)))))))

-- it run to its end: its cycles, the row, and of its dots the number and the last
unfoldable pub counts : List ℕ → List ℕ
counts ds = length ds ∷ get_or ds (length ds - 1) 0 ∷ []

unfoldable pub full : Tables
full = tables (replicate 480 255)

unfoldable pub ran : ℕ → ℕ → List ℕ
ran c2 c = left (stated (any c2 c)) ∷ shown (after (stated (any c2 c)) 65535) ++ counts (dots (stated (any c2 c)) full 65535)

-- what is expected: all but X, Y and the work is as it was, and ready's flag is set
unfoldable pub over : ℕ → ℕ → ℕ → List ℕ
over c2 x y = but 6 x (but 7 y (but 19 1 (but 10 0 (but 11 0 (any c2 0)))))

unfoldable pub ended : ℕ → ℕ → ℕ → ℕ → List ℕ → List ℕ
ended c2 n x y ds = n ∷ over c2 x y ++ ds

-- the eight directions: how far along X and along Y, and whether back
unfoldable pub far_x : ℕ → ℕ → ℕ
far_x d n = get_or (n ∷ n ∷ 0 ∷ n ∷ 0 ∷ n ∷ n ∷ n ∷ []) d 0

unfoldable pub far_y : ℕ → ℕ → ℕ
far_y d n = get_or (0 ∷ n ∷ n ∷ n ∷ n ∷ n ∷ 0 ∷ n ∷ []) d 0

unfoldable pub end_x : ℕ → ℕ → ℕ
end_x d n = get_or ((300 + n) ∷ (300 + n) ∷ 300 ∷ (300 - n) ∷ 300 ∷ (300 + n) ∷ (300 - n) ∷ (300 - n) ∷ []) d 0

unfoldable pub end_y : ℕ → ℕ → ℕ
end_y d n = get_or (200 ∷ (200 + n) ∷ (200 + n) ∷ (200 + n) ∷ (200 - n) ∷ (200 - n) ∷ 200 ∷ (200 - n) ∷ []) d 0

-- a solid vector of direction d and lengths n and m: as many dots as cycles, the last at its end
unfoldable pub vector_ran : ℕ → ℕ → ℕ → ℕ → List ℕ
vector_ran c2 d n m =
    let k = 1 + max (far_x d n) (far_y d m) in
    ended c2 k (end_x d n) (end_y d m) (k ∷ (end_y d m * 512 + end_x d n) ∷ [])

-- a character of every dot: 5 of its 6 columns, the last dot at the top of the fifth; turned, at its left; its end as ever
unfoldable pub letter_ran : ℕ → List ℕ
letter_ran c2 =
    cond (ltb c2 8) (ended c2 288 312 200 (240 ∷ (223 * 512 + 309 + lean c2 23) ∷ []))
    (ended c2 288 300 212 (240 ∷ ((209 + lean c2 23) * 512 + 277) ∷ []))

unfoldable pub block_ran : ℕ → List ℕ
block_ran c2 =
    cond (ltb c2 8) (ended c2 96 308 200 (96 ∷ (211 * 512 + 307 + lean c2 11) ∷ []))
    (ended c2 96 300 208 (96 ∷ ((207 + lean c2 11) * 512 + 289) ∷ []))

unfoldable pub codes : ℕ → List Reading
codes c2 =
    (ran c2 0x0A ++ (ran c2 0x0B ++ ran c2 0x0F), letter_ran c2 ++ (block_ran c2 ++ ended c2 1 300 200 (0 ∷ 0 ∷ [])))
    ∷ (joined (ran c2) 0x10 8, joined (λ d. vector_ran c2 d 5 9) 0 8)
    ∷ (joined (ran c2) 0x18 8, joined (λ d. vector_ran c2 d 9 9) 0 8)
    ∷ (ran c2 0x20 ++ (ran c2 0x41 ++ ran c2 0x7F), letter_ran c2 ++ (letter_ran c2 ++ letter_ran c2))
    ∷ []

-- no cycle is left to an idle processor or to a clear, and grants change nothing there
unfoldable pub nothing_left : List Reading
nothing_left =
    (granting rich counted 65535, 0 ∷ rich)
    ∷ (granting (but 10 2 (but 13 1 (but 14 1 rich))) counted 9, 0 ∷ but 10 2 (but 13 1 (but 14 1 rich)))
    -- 0F takes one cycle and writes no dot
    ∷ (granting (but 10 1 (but 11 0x0F rich)) counted 0, 0 ∷ but 10 1 (but 11 0x0F rich))
    ∷ (granting (but 10 1 (but 11 0x0F rich)) counted 9, 1 ∷ but 19 1 rich)
    ∷ []

-- one dot at (517, 3) and one at (5, 3), under each of the 128 values of CTRL1: it is written where bit 0 is high, the one outside
-- only where bit 3 is high too; bit 1 says whether it is lit
unfoldable pub one_dot : ℕ → ℕ → List ℕ
one_dot x c1 = dots (stated (but 1 c1 (but 4 0 (but 5 0 (but 6 x (but 7 3 (but 10 1 (but 11 0x11 rich)))))))) counted 1

unfoldable pub ctrl1_bits : List Reading
ctrl1_bits =
    (joined (one_dot 5) 0 128, replicate 64 1541)
    ∷ (joined (one_dot 517) 0 128, replicate 32 1541)
    ∷ (joined (λ c1. c1 ∷ one_dot 517 c1) 0 16, 0 ∷ 1 ∷ 2 ∷ 3 ∷ 4 ∷ 5 ∷ 6 ∷ 7 ∷ 8 ∷ 9 ∷ 1541 ∷ 10 ∷ 11 ∷ 1541 ∷ 12 ∷ 13 ∷ 1541 ∷ 14 ∷ 15 ∷ 1541 ∷ [])
    ∷ (each (λ c1. told (pen_down (stated (but 1 c1 rich)).regs)) 0 128, joined (λ i. 0 ∷ 1 ∷ []) 0 64)
    ∷ (each (λ c1. told (lights (stated (but 1 c1 rich)).regs)) 0 128, joined (λ i. 0 ∷ 0 ∷ 1 ∷ 1 ∷ []) 0 32)
    ∷ (each (λ c1. told (tip Ef9366 (stated (but 1 c1 rich)).regs).lit) 0 128, joined (λ i. 0 ∷ 0 ∷ 1 ∷ 1 ∷ []) 0 32)
    ∷ (each (λ c1. told (cyclic (stated (but 1 c1 rich)).regs)) 0 128, joined (λ i. replicate 8 0 ++ replicate 8 1) 0 8)
    ∷ []

-- CTRL2 bit 2 tilts, bit 3 turns
unfoldable pub ctrl2_bits : List Reading
ctrl2_bits =
    (each (λ c2. told (lie (stated (but 2 c2 rich)).regs).tilted) 0 16, joined (λ i. replicate 4 0 ++ replicate 4 1) 0 2)
    ∷ (each (λ c2. told (lie (stated (but 2 c2 rich)).regs).turned) 0 16, replicate 8 0 ++ replicate 8 1)
    -- the glyphs of 20 to 7F are the table's bytes in order; 0A and 0B have every dot
    ∷ (joined (glyph counted) 0x20 96, each (λ n. n) 0 480)
    ∷ (glyph counted 0x0A ++ glyph counted 0x0B, replicate 10 255)
    ∷ []

unfoldable pub stroke_rows : List Reading
stroke_rows = strokes 0x05 true ++ (strokes 0x43 true ++ strokes 0x7E false)

unfoldable pub letter_rows : List Reading
letter_rows = letters 0x02 ++ letters 0x0A

unfoldable pub slanted_letter_rows : List Reading
slanted_letter_rows = letters 0x06 ++ letters 0x0E

-- upwards too; line types have no part in cycles and ends
unfoldable pub turned_rows : List Reading
turned_rows = codes 0x08

-- tilted, and tilted upwards
unfoldable pub slanted_rows : List Reading
slanted_rows = codes 0x04 ++ codes 0x0C

-- all characters, whose dots are the glyph's business; all short vectors
unfoldable pub code_rows : List Reading
code_rows =
    codes 0x00
    ++ (
    (joined (λ c. take 21 (ran 0x00 c)) 0x20 96, joined (λ i. take 21 (letter_ran 0x00)) 0 96)
    ∷ (joined (ran 0x00) 0x80 128, joined (λ n. joined (λ m. joined (λ d. vector_ran 0x00 d n m) 0 8) 0 4) 0 4)
    ∷ []
    )
