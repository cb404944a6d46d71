-- What has no part in a call: the flags, VB, the pen's sequence, the bits of CTRL1 that it does not look at, how many grants its
-- cycles came in. Rows that differ in these alone lead to the same, row by row.
-- Assumes nothing.
use Rattle.std.specs.Prelude.{ℕ, ◌+◌, ◌*◌, ◌/◌, ◌%◌, ◌^◌, true, cond, List, [], ◌∷◌, ◌++◌, ltb, length, get_or, replicate, drop}
use Rattle.basis.specs.Reading.{Reading, each, joined}
use Rattle.rules.specs.Cycles.{left, used, dots, after}
use Rattle.rules.specs.Blanking.{after_vb, picture_vb}
use Rattle.rules.specs.Registers.{register_at}
use Rattle.rules.specs.Figure.{tables}
use Rattle.rules.specs.Calls.{memory, written, granted, blanked, located}
use Rattle.rules.specs.Tables.Rows.{nth, but, stated, shown, writes, reads, strikes, gives, refuses, rich}
use Rattle.rules.specs.Tables.RegisterRows.{running, clearing, flagged}
use Rattle.rules.specs.Tables.FrameRows.{doing, scene, pictured}
use Rattle.rules.specs.Tables.DrawRows.{counted, lettered, full, granting, stroke, letter, any, ran, vector_ran}
use Rattle.rules.specs.Tables.RefusalRows.{flaw, flaws, lent, kept, outputs}

-- a row whose other things are otherwise: all flags set; the pen's sequence waits, or is open; VB is high; VB is high, the pen
-- waits and its flag is set; a number is before the row by so many places
unfoldable pub other : ℕ → ℕ → List ℕ → List ℕ
other i k r =
    get_or (
    but (i + 17) 1 (but (i + 18) 1 (but (i + 19) 1 r))
    ∷ but (i + 15) 1 r
    ∷ but (i + 15) 2 r
    ∷ but (i + 16) 1 r
    ∷ but (i + 15) 1 (but (i + 16) 1 (but (i + 17) 1 r))
    ∷ [])
    k []

-- Commands and registers ----------------------------------------------------------------------------------------------

-- a command but for 08 and 09, on those rows and on the row itself; a register likewise, in two bytes
unfoldable pub commands_at : ℕ → ℕ → List Reading
commands_at c n = (
  joined (λ k. joined (λ i. writes (other 0 k rich) 0x0 i) c n) 0 5,
  joined (λ k. joined (λ i. other 2 k (writes rich 0x0 i)) c n) 0 5,
)
    ∷ []

unfoldable pub registers_with : ℕ → List Reading
registers_with v = (
  joined (λ k. joined (λ a. writes (other 0 k rich) a v) 1 16) 0 5,
  joined (λ k. joined (λ a. other 2 k (writes rich a v)) 1 16) 0 5,
)
    ∷ []

unfoldable pub free_writes : List Reading
free_writes =
    commands_at 0x00 8
    ++ (commands_at 0x0A 24 ++ (commands_at 0x41 1 ++ (commands_at 0x7F 2 ++ (commands_at 0xE9 1 ++ (commands_at 0xFF 1
    ++ (registers_with 0xF6 ++ (registers_with 0x39
    ++ (
    -- 08 and 09 leave the flags for pen end and VB
    (
      writes flagged 0x0 0x08 ++ writes flagged 0x0 0x09,
      gives 0 (but 15 1 flagged) ++ gives 0 (but 15 1 flagged),
    )
    -- CTRL1 sets no flag and takes none back, whatever masks go high or low
    ∷ (writes (but 1 0 rich) 0x1 0x7F, gives 0 (but 1 0x7F rich))
    ∷ (writes (but 1 0 (but 16 1 rich)) 0x1 0x7F, gives 0 (but 1 0x7F (but 16 1 rich)))
    ∷ (writes flagged 0x1 0x00, gives 0 (but 1 0 flagged))
    -- 07 puts CSIZE to 11 whatever it was
    ∷ (each (λ s. nth 5 (writes (but 3 s rich) 0x0 0x07)) 0 256, replicate 256 0x11)
    -- a character is taken under every CTRL2
    ∷ (each (λ c2. nth 0 (writes (but 2 c2 rich) 0x0 0x41)) 0 16, replicate 16 0)
    -- X and Y take all twelve bits on a cyclic screen too
    ∷ (
      writes (but 1 0x08 rich) 0x8 0x0F ++ (writes (but 1 0x08 rich) 0x9 0xFF ++ (writes (but 1 0x08 rich) 0xA 0x0F ++ writes (but 1 0x08 rich) 0xB 0xFF)),
      gives 0 (but 1 0x08 (but 6 0xFAB rich)) ++ (gives 0 (but 1 0x08 (but 6 0x9FF rich))
          ++ (gives 0 (but 1 0x08 (but 7 0xFDE rich)) ++ gives 0 (but 1 0x08 (but 7 0xCFF rich)))),
    )
    ∷ []
    ))))))))

-- Reads and outputs ---------------------------------------------------------------------------------------------------

-- what address a reads as number i of the row goes from 0 on; those n numbers
unfoldable pub values_at : ℕ → ℕ → ℕ → List ℕ
values_at i a n = each (λ v. nth 1 (reads (but i v rich) a)) 0 n

unfoldable pub counting : ℕ → List ℕ
counting n = each (λ v. v) 0 n

unfoldable pub free_reads : List Reading
free_reads = (
  joined (λ k. joined (λ a. reads (other 0 k rich) a) 1 16) 0 5,
  joined (λ k. joined (λ a. other 2 k (reads rich a)) 1 16) 0 5,
)
    -- STATUS clears the flags while the pen's sequence is open, while VB is high, while it waits with VB high
    ∷ (
      reads (but 15 2 flagged) 0x0 ++ (reads (but 16 1 flagged) 0x0 ++ reads (but 15 1 (but 16 1 flagged)) 0x0),
      gives 0xFC (but 15 2 rich) ++ (gives 0xFF (but 16 1 rich) ++ gives 0xFE (but 15 1 (but 16 1 rich))),
    )
    -- every value of a register is read as it is; of XLP each with bit 1 low
    ∷ (values_at 1 0x1 128 ++ (values_at 2 0x2 16 ++ (values_at 3 0x3 256 ++ (values_at 4 0x5 256 ++ (values_at 5 0x7 256 ++ values_at 9 0xD 256)))), counting 128 ++ (counting 16 ++ (counting 256 ++ (counting 256 ++ (counting 256 ++ counting 256)))))
    ∷ (joined (λ i. nth 1 (reads (but 8 (4 * i) rich) 0xC) ∷ nth 1 (reads (but 8 (4 * i + 1) rich) 0xC) ∷ []) 0 64, joined (λ i. (4 * i) ∷ (4 * i + 1) ∷ []) 0 64)
    -- bit 2 is low while any code runs, while a clear waits and while it is in its frame, 0C too
    ∷ (each (λ c. register_at (stated (but 10 1 (but 11 c rich))) 0x0 / 4 % 2) 0 256, replicate 256 0)
    ∷ (each (λ w. register_at (stated (doing w rich)) 0x0 / 4 % 2) 0 6, 1 ∷ replicate 5 0)
    -- bit 3 by X alone and by Y alone, at their last places
    ∷ (
      joined (λ f. each (λ i. register_at (stated (but i 4095 (but 0 f (but 6 0 (but 7 0 rich))))) 0x0) 6 2) 0 3,
      replicate 6 0x0D,
    )
    -- the address outputs while a command runs, while a clear does, on a cyclic screen, and with the rest otherwise
    ∷ (
      outputs (located (stated running)) ++ (outputs (located (stated clearing)) ++ (outputs (located (stated (but 1 0x08 rich)))
          ++ joined (λ k. outputs (located (stated (other 0 k rich)))) 0 5)),
      joined (λ i. 0 ∷ 43 ∷ 123 ∷ 11 ∷ []) 0 8,
    )
    ∷ []

-- Frames --------------------------------------------------------------------------------------------------------------

unfoldable pub free_frames : List Reading
free_frames =
    -- the picture of 04 and of 0C whatever the pen's sequence is, and that of 04 in all of 32,768 bytes
    (
      joined (λ pen. picture_vb (stated (but 15 pen (doing 3 (but 1 0x03 rich)))) true (1 ∷ 2 ∷ [])
          ++ picture_vb (stated (but 15 pen (doing 5 (but 1 0x03 rich)))) true (1 ∷ 2 ∷ [])) 0 3,
      joined (λ pen. 0 ∷ 0 ∷ 255 ∷ 255 ∷ []) 0 3,
    )
    ∷ (picture_vb (stated (but 0 1 (but 14 3 (doing 3 rich)))) true (replicate 32768 1), replicate 32768 0)
    -- 0C by bit 1 of CTRL1 alone
    ∷ (joined (λ c1. pictured 5 c1 0 1) 0 128, joined (λ i. replicate 6 0 ++ replicate 6 255) 0 32)
    -- the rise that ends a clear and the pen's sequence, and an edge, under every CTRL1: bits 4, 5 and 6 alone set flags
    ∷ (
      joined (λ c1. drop 10 (shown (after_vb (stated (but 1 c1 (scene 3 2 0 0 0 0 0))) true))) 0 128,
      joined (λ c1. replicate 6 0 ++ (1 ∷ (c1 / 16 % 2) ∷ (c1 / 32 % 2) ∷ (c1 / 64) ∷ [])) 0 128,
    )
    ∷ (
      joined (λ c1. drop 17 (strikes (but 1 c1 (scene 0 2 0 0 0 0 0)) 10 20)) 0 128,
      joined (λ c1. 0 ∷ 0 ∷ (c1 / 16 % 2) ∷ 0 ∷ 0 ∷ []) 0 128,
    )
    ∷ (each (λ c1. nth 10 (strikes (but 1 c1 (scene 0 2 0 0 0 0 0)) 10 20)) 0 128, replicate 128 41)
    -- an edge while VB is high, with no sequence and with one that waits; past the screen
    ∷ (
      strikes (scene 0 0 1 7 0 0 0) 10 20 ++ (strikes (scene 0 1 1 7 0 0 0) 10 20 ++ strikes (scene 0 1 1 7 0 0 0) 64 0),
      gives 0 (scene 0 0 1 7 0 0 0) ++ (gives 0 (scene 0 1 1 7 0 0 0) ++ refuses 8 (scene 0 1 1 7 0 0 0)),
    )
    -- an edge where the last one was
    ∷ (each (λ h. nth 10 (strikes (but 8 (4 * h) (scene 0 2 0 0 0 0 0)) h 0)) 0 64, each (λ h. 4 * h + 1) 0 64)
    ∷ []

-- Grants --------------------------------------------------------------------------------------------------------------

-- the first two of each four
unfoldable pub two_of_four : List ℕ → List ℕ
two_of_four ds = joined (λ i. cond (ltb (i % 4) 2) (get_or ds i 0 ∷ []) []) 0 (length ds)

-- all dots of code c under a CTRL2
unfoldable pub all_dots : ℕ → ℕ → List ℕ
all_dots c2 c = dots (stated (any c2 c)) full 65535

-- a command in portions of 1 cycle, 4 cycles and the rest: its dots, and the row at the end
unfoldable pub in_portions : ℕ → ℕ → List ℕ
in_portions c2 c =
    let s = stated (any c2 c) in
    dots s full 1 ++ (dots (after s 1) full 4 ++ (dots (after (after s 1) 4) full 65535 ++ shown (after (after (after s 1) 4) 65535)))

unfoldable pub at_once : ℕ → ℕ → List ℕ
at_once c2 c = all_dots c2 c ++ shown (after (stated (any c2 c)) 65535)

unfoldable pub portioned : List ℕ
portioned = 0x0A ∷ 0x0B ∷ 0x10 ∷ 0x12 ∷ 0x13 ∷ 0x14 ∷ 0x15 ∷ 0x16 ∷ 0x17 ∷ 0x1B ∷ 0xE9 ∷ 0xFF ∷ []

-- the row when n cycles of code c are used, from (1000, 3000), in a format under a CTRL1
unfoldable pub outward : ℕ → ℕ → ℕ → ℕ → List ℕ
outward f c1 c n = shown (after (stated (but 0 f (but 1 c1 (but 6 1000 (but 7 3000 (any 0x00 c)))))) n)

unfoldable pub outwardly : List ℕ
outwardly = 0x11 ∷ 0x0B ∷ 0xE9 ∷ []

-- the cycles of code c at a CSIZE, and X at its end; a half of CSIZE, 0 meaning 16
unfoldable pub of_size : ℕ → ℕ → List ℕ
of_size s c = let r = stated (but 3 s (any 0x00 c)) in left r ∷ nth 6 (shown (after r 65535)) ∷ []

unfoldable pub half : ℕ → ℕ
half n = 1 + (n + 15) % 16

-- X and Y when n cycles of code c are used
unfoldable pub stands : ℕ → ℕ → List ℕ
stands c n = let r = shown (after (stated (any 0x00 c)) n) in nth 6 r ∷ nth 7 r ∷ []

-- code 41 at CSIZE 00
unfoldable pub large : ℕ → ℕ → ℕ → List ℕ
large p x y = but 3 0 (but 6 x (but 7 y (but 12 p (any 0x00 0x41))))

-- the call of 3 cycles on a card of FMAT low: number, value, row and picture
unfoldable pub granted_to : List ℕ → List ℕ
granted_to r = kept (granted (stated r) 3 (memory (replicate 8192 0)) counted)

unfoldable pub free_grants : List Reading
free_grants =
    -- part of a vector and its end, part of a letter and its end
    (
      joined (λ k. granting (other 0 k (stroke 0x43 2 12 21)) counted 2 ++ granting (other 0 k (stroke 0x43 2 12 21)) counted 9) 0 5,
      joined (λ k. other 1 k (granting (stroke 0x43 2 12 21) counted 2) ++ other 1 k (granting (stroke 0x43 2 12 21) counted 9)) 0 5,
    )
    ∷ (joined (λ k. granted_to (other 0 k (but 0 2 (stroke 0x43 2 12 21)))) 0 5, joined (λ k. other 2 k (granted_to (but 0 2 (stroke 0x43 2 12 21)))) 0 5)
    ∷ (
      joined (λ k. granting (other 0 k (letter 0x02 90 111 52)) lettered 6) 0 5,
      joined (λ k. other 1 k (granting (letter 0x02 90 111 52) lettered 6)) 0 5,
    )
    -- ready's flag that is set stays set at a command's end, though its mask is low
    ∷ (
      joined (λ k. granting (other 0 k (stroke 0x05 2 12 21)) counted 9) 0 5,
      joined (λ k. other 1 k (granting (stroke 0x05 2 12 21) counted 9)) 0 5,
    )
    -- nothing is used where nothing runs, nor by a clear that waits, the pen up
    ∷ (joined (λ k. granting (other 0 k rich) counted 65535) 0 5, joined (λ k. 0 ∷ other 0 k rich) 0 5)
    ∷ (granting (but 1 0x40 (but 10 2 rich)) counted 9, 0 ∷ but 1 0x40 (but 10 2 rich))
    -- vectors with tilt high and characters upwards: those of neither
    ∷ (joined (ran 0x0C) 0x10 8, joined (λ d. vector_ran 0x0C d 5 9) 0 8)
    ∷ (joined (ran 0x0C) 0x18 8, joined (λ d. vector_ran 0x0C d 9 9) 0 8)
    ∷ (joined (ran 0x0C) 0xE0 32, joined (λ m. joined (λ d. vector_ran 0x0C d 3 m) 0 8) 0 4)
    -- the eraser with FMAT low, cyclic or not, and with FMAT high: dots 2 and 3 of four
    ∷ (
      (granted (stated (but 0 2 (stroke 0x09 2 12 21))) 3 (memory (replicate 8192 255)) counted).memory.picture
          ++ (granted (stated (but 0 1 (stroke 0x01 2 12 21))) 3 (memory (replicate 32768 255)) counted).memory.picture,
      replicate 673 255 ++ (207 ∷ (replicate 8863 255 ++ (207 ∷ replicate 31422 255))),
    )
    -- the line type under every CTRL1 with the pen or eraser down, and in every kind of vector
    ∷ (
      joined (λ k. dots (stated (stroke (2 * k + 1) 0 10 20)) counted 65535) 0 64,
      joined (λ k. 10250 ∷ 10251 ∷ 10764 ∷ 10765 ∷ []) 0 64,
    )
    ∷ (joined (all_dots 0x01) 0x10 16, joined (λ c. two_of_four (all_dots 0x00 c)) 0x10 16)
    ∷ (joined (all_dots 0x01) 0xF8 8, joined (λ c. two_of_four (all_dots 0x00 c)) 0xF8 8)
    -- a letter with the pen up, and on a cyclic screen; a short vector there
    ∷ (dots (stated (but 1 0x02 (letter 0x02 0 100 50))) lettered 96 ++ dots (stated (but 1 0x7C (letter 0x0A 0 100 50))) lettered 96, [])
    ∷ (
      dots (stated (but 1 0x09 (letter 0x02 0 612 306))) lettered 96 ++ dots (stated (but 1 0x0B (but 11 0xE9 (letter 0x00 0 511 255)))) lettered 9,
      dots (stated (but 1 0x01 (letter 0x02 0 100 50))) lettered 96 ++ (131071 ∷ 130560 ∷ 1 ∷ 2 ∷ []),
    )
    -- one dot at (517, 812) on a cyclic screen of FMAT high and of FMAT low: (5, 300) and (5, 44)
    ∷ (
      dots (stated (but 0 1 (but 1 0x0B (but 11 0x80 (letter 0x00 0 517 812))))) counted 1
          ++ dots (stated (but 0 2 (but 1 0x0B (but 11 0x80 (letter 0x00 0 517 812))))) counted 1,
      153605 ∷ 11269 ∷ [],
    )
    -- one at (3000, 3000) and one at (4095, 4095) on a cyclic screen, in each format
    ∷ (
      joined (λ f. dots (stated (but 0 f (but 1 0x0B (but 11 0x80 (letter 0x00 0 3000 3000))))) counted 1
          ++ dots (stated (but 0 f (but 1 0x0B (but 11 0x80 (letter 0x00 0 4095 4095))))) counted 1) 0 3,
      94648 ∷ 131071 ∷ 225720 ∷ 262143 ∷ 47288 ∷ 65535 ∷ [],
    )
    -- X and Y past the window, under CTRL1 40 to 4F and in every format, on the way and at the end: nothing is folded
    ∷ (
      joined (λ k. joined (λ c1. outward 0 c1 (get_or outwardly k 0) 3 ++ outward 0 c1 (get_or outwardly k 0) 65535) 0x40 16) 0 3,
      joined (λ k. joined (λ c1. but 1 c1 (outward 0 0x40 (get_or outwardly k 0) 3) ++ but 1 c1 (outward 0 0x40 (get_or outwardly k 0) 65535)) 0x40 16) 0 3,
    )
    ∷ (
      joined (λ f. joined (λ k. outward f 0x4B (get_or outwardly k 0) 3 ++ outward f 0x4B (get_or outwardly k 0) 65535) 0 3) 0 3,
      joined (λ f. joined (λ k. but 0 f (outward 0 0x4B (get_or outwardly k 0) 3) ++ but 0 f (outward 0 0x4B (get_or outwardly k 0) 65535)) 0 3) 0 3,
    )
    -- every DELTAX along X and every DELTAY along Y
    ∷ (
      each (λ v. left (stated (but 4 v (any 0x00 0x10)))) 0 256 ++ each (λ v. left (stated (but 5 v (any 0x00 0x12)))) 0 256,
      each (λ v. v) 1 256 ++ each (λ v. v) 1 256,
    )
    -- both deltas 0, in every direction: one cycle; both 7, in every line type: to (307, 207)
    ∷ (each (λ c. left (stated (but 4 0 (but 5 0 (any 0x00 c))))) 0x10 16, replicate 16 1)
    ∷ (
      joined (λ c2. let r = shown (after (stated (but 4 7 (but 5 7 (any c2 0x11)))) 65535) in nth 6 r ∷ nth 7 r ∷ []) 0 4,
      joined (λ c2. 307 ∷ 207 ∷ []) 0 4,
    )
    -- every CSIZE: the cycles of a character and of a block, and how far X has grown
    ∷ (
      joined (λ s. of_size s 0x41 ++ of_size s 0x0B) 0 256,
      joined (λ s. (48 * half (s / 16) * half (s % 16)) ∷ (300 + 6 * half (s / 16)) ∷ (16 * half (s / 16) * half (s % 16)) ∷ (300 + 4 * half (s / 16)) ∷ []) 0 256,
    )
    -- in portions as at once
    ∷ (
      joined (λ k. in_portions 0x00 (get_or portioned k 0)) 0 12 ++ (in_portions 0x08 0x41 ++ in_portions 0x09 0x0B),
      joined (λ k. at_once 0x00 (get_or portioned k 0)) 0 12 ++ (at_once 0x08 0x41 ++ at_once 0x09 0x0B),
    )
    -- the 12,288 cycles of the largest character in portions of 5,000
    ∷ (
      shown (after (stated (large 0 300 200)) 5000) ++ (shown (after (stated (large 5000 339 208)) 5000) ++ (used (stated (large 10000 378 216)) 65535 ∷ [])),
      large 5000 339 208 ++ (large 10000 378 216 ++ (2288 ∷ [])),
    )
    -- where X and Y stand in between: a block of 8 by 12, E9, and 16 by 5
    ∷ (joined (stands 0x0B) 0 26, joined (λ n. (300 + n / 12) ∷ (200 + n % 12) ∷ []) 0 26)
    ∷ (joined (stands 0xE9) 0 5, 300 ∷ 200 ∷ 301 ∷ 200 ∷ 302 ∷ 201 ∷ 303 ∷ 201 ∷ 303 ∷ 201 ∷ [])
    ∷ (joined (stands 0x16) 0 7, 300 ∷ 200 ∷ 299 ∷ 200 ∷ 298 ∷ 200 ∷ 297 ∷ 200 ∷ 296 ∷ 200 ∷ 295 ∷ 200 ∷ 295 ∷ 200 ∷ [])
    -- slanted at every CSIZE, a character and a block, every character, and in every format: after one cycle one further
    ∷ (
      each (λ s. nth 6 (shown (after (stated (but 3 s (any 0x04 0x41))) 1))) 0 256
          ++ (each (λ s. nth 6 (shown (after (stated (but 3 s (any 0x04 0x0B))) 1))) 0 256
          ++ (each (λ c. nth 6 (shown (after (stated (any 0x04 c)) 1))) 0x20 96
          ++ each (λ f. nth 6 (shown (after (stated (but 0 f (any 0x04 0x41))) 1))) 0 3)),
      replicate 611 301,
    )
    ∷ (
      each (λ s. nth 7 (shown (after (stated (but 3 s (any 0x0C 0x41))) 1))) 0 256
          ++ (each (λ s. nth 7 (shown (after (stated (but 3 s (any 0x0C 0x0B))) 1))) 0 256
          ++ (each (λ c. nth 7 (shown (after (stated (any 0x0C c)) 1))) 0x20 96
          ++ each (λ f. nth 7 (shown (after (stated (but 0 f (any 0x0C 0x41))) 1))) 0 3)),
      replicate 611 201,
    )
    -- its dots with FMAT high and with FMAT low, whose lines are 256 dots
    ∷ (
      dots (stated (but 0 1 (but 1 0x03 (letter 0x06 0 100 50)))) lettered 96 ++ dots (stated (but 0 2 (but 1 0x03 (letter 0x06 0 100 50)))) lettered 96,
      25700 ∷ 25701 ∷ 26215 ∷ 29293 ∷ 26216 ∷ 29294 ∷ 28784 ∷ 28785 ∷ 27247 ∷ 27760 ∷ 27248 ∷ 27761
          ∷ 12900 ∷ 12901 ∷ 13159 ∷ 14701 ∷ 13160 ∷ 14702 ∷ 14448 ∷ 14449 ∷ 13679 ∷ 13936 ∷ 13680 ∷ 13937 ∷ [],
    )
    ∷ []

-- Refusals ------------------------------------------------------------------------------------------------------------

unfoldable pub free_refusals : List Reading
free_refusals =
    -- 1 goes before every other number of a write, at each address and for each code, tilted or not
    (joined (λ k. each (λ a. (written (stated (get_or flaws k [])) a 0).number) 0 16) 0 10, replicate 160 1)
    ∷ (each (λ c. (written (stated (but 2 0x04 (but 6 4096 rich))) 0x0 c).number) 0 256, replicate 256 1)
    -- and of a read, at each address, and of an edge with both past the screen
    ∷ (each (λ a. nth 0 (reads (but 6 4096 rich) a)) 0 16 ++ (nth 0 (strikes (but 6 4096 rich) 64 256) ∷ []), replicate 17 1)
    -- a character runs under every CTRL2
    ∷ (each (λ c2. flaw (but 2 c2 (but 10 1 (but 11 0x41 rich)))) 0 16, replicate 16 0)
    -- 2 goes before 3 while a command runs, too; while a clear waits or is in its frame, 2 and 3 as ever
    ∷ (lent 0 1 16383 479 ++ (lent 0 2 16383 479 ++ (lent 0 2 16384 479 ++ lent 0 2 16384 480)), 2 ∷ 2 ∷ 2 ∷ 2 ∷ 3 ∷ 0 ∷ 0 ∷ 0 ∷ [])
    ∷ (
      (blanked (stated clearing) true (memory [])).answer.number ∷ (granted (stated clearing) 1 (memory []) (tables [])).answer.number
          ∷ (granted (stated clearing) 1 (memory (replicate 16384 0)) (tables [])).answer.number ∷ [],
      2 ∷ 2 ∷ 3 ∷ [],
    )
    -- X and Y with one bit above the twelfth, and all; h above 63 and v above 255 likewise
    ∷ (joined (λ k. each (λ i. flaw (but i (2 ^ k) rich)) 6 2) 0 16, replicate 24 0 ++ replicate 8 1)
    ∷ (flaw (but 6 65535 rich) ∷ flaw (but 7 65535 rich) ∷ [], 1 ∷ 1 ∷ [])
    ∷ (each (λ h. nth 0 (strikes rich h 0)) 0 256, replicate 64 0 ++ replicate 192 8)
    ∷ (each (λ k. nth 0 (strikes rich 0 (2 ^ k))) 0 16, replicate 8 0 ++ replicate 8 8)
    -- while a command runs, while a clear waits and while it is in its frame, no code is taken
    ∷ (joined (λ w. each (λ c. (written (stated (doing w rich)) 0x0 c).number) 0 256) 1 5, replicate 1280 6)
    ∷ []
