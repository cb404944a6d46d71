-- A second table of readings, which pins what document 01's own leave free. Each row's right side was worked out by hand
-- from the paper. EF9366 with the pen down unless said.
-- Assumes nothing.
use Rattle.std.specs.Prelude.{ℕ, zero, suc, ◌+◌, ◌^◌, true, false, List, [], ◌∷◌, ◌++◌, replicate}
use Rattle.basis.specs.Reading.{Reading}
use Rattle.picture.specs.Dot.{paint}
use Rattle.parts.specs.declared.format.Format.{Format}
use Rattle.parts.specs.declared.format.Format.TheVariants.{Ef9366, FmatHigh, FmatLow}
use Rattle.rules.specs.Sequence.{Frames, Steps, Clear, no_frames, Waiting, Open}
use Rattle.rules.specs.State.{State, regs, with_regs, with_work, with_light_pen, with_vb, fresh}
use Rattle.rules.specs.Figure.{tables}
use Rattle.rules.specs.Calls.{memory, written, read_out, granted, blanked, struck, located}
use Rattle.rules.specs.Card.{Card, Event, W, R, T, VB, LP}
use Rattle.rules.specs.Tables.Play.{said, drawn, ends, addressed, new, dark, blank, row, box, numbers, just}
use Rattle.rules.specs.Tables.Readings.{card, pen, cyclic_pen, from, draw}

-- a frame goes by: VB rises and falls, and rises again
unfoldable pub frame : List Event → List Event
frame es = VB true ∷ VB false ∷ VB true ∷ es

-- Registers -----------------------------------------------------------------------------------------------------------

-- each register keeps its own value, unused bits dropped
unfoldable pub registers : List Reading
registers = (
  said card (W 1 0xFF ∷ W 2 0xFA ∷ W 3 0x23 ∷ W 5 0x45 ∷ W 7 0x67 ∷ W 8 0xF9 ∷ W 9 0xAB ∷ W 0xA 0xFC ∷ W 0xB 0xDE
      ∷ R 1 ∷ R 2 ∷ R 3 ∷ R 5 ∷ R 7 ∷ R 8 ∷ R 9 ∷ R 0xA ∷ R 0xB ∷ R 0xC ∷ R 0xD ∷ []),
  0x7F ∷ 0x0A ∷ 0x23 ∷ 0x45 ∷ 0x67 ∷ 0x09 ∷ 0xAB ∷ 0x0C ∷ 0xDE ∷ 0x00 ∷ 0x00 ∷ [],
)
    -- the fresh registers
    ∷ (
      said card (R 1 ∷ R 2 ∷ R 3 ∷ R 5 ∷ R 7 ∷ R 8 ∷ R 9 ∷ R 0xA ∷ R 0xB ∷ R 0xC ∷ R 0xD ∷ []),
      0 ∷ 0 ∷ 0x11 ∷ 0 ∷ 0 ∷ 0 ∷ 0 ∷ 0 ∷ 0 ∷ 0 ∷ 0 ∷ [],
    )
    -- a half of X leaves the other half
    ∷ (said card (W 9 0xAB ∷ W 8 0x03 ∷ R 9 ∷ W 9 0x12 ∷ R 8 ∷ []), 0xAB ∷ 0x03 ∷ [])
    -- 4, 6, E, F and above are refused with 4, C and D with 5 on writing
    ∷ (
      said card (R 4 ∷ R 6 ∷ R 0xE ∷ R 0xF ∷ R 16 ∷ R 255 ∷ W 4 0 ∷ W 6 0 ∷ W 0xC 0 ∷ W 0xD 0 ∷ W 0xE 0 ∷ W 0xF 0 ∷ W 16 0 ∷ []),
      1004 ∷ 1004 ∷ 1004 ∷ 1004 ∷ 1004 ∷ 1004 ∷ 1004 ∷ 1004 ∷ 1005 ∷ 1005 ∷ 1004 ∷ 1004 ∷ 1004 ∷ [],
    )
    ∷ []

-- Commands without cycles ---------------------------------------------------------------------------------------------

unfoldable pub prompts : List Reading
prompts =
    -- 00 and 01 set and clear CTRL1 bit 1, 02 and 03 bit 0
    (said card (W 1 0x70 ∷ W 0 0 ∷ R 1 ∷ W 0 2 ∷ R 1 ∷ W 0 1 ∷ R 1 ∷ W 0 3 ∷ R 1 ∷ []), 0x72 ∷ 0x73 ∷ 0x71 ∷ 0x70 ∷ [])
    -- 05, 0D and 0E
    ∷ (ends card (from 300 700 (W 0 0x05 ∷ [])), 0 ∷ 0 ∷ [])
    ∷ (ends card (from 300 700 (W 0 0x0D ∷ [])), 0 ∷ 700 ∷ [])
    ∷ (ends card (from 300 700 (W 0 0x0E ∷ [])), 300 ∷ 0 ∷ [])
    -- 04 and 0C leave X and Y, 06 puts them to 0 on acceptance
    ∷ (ends card (from 300 700 (W 0 0x04 ∷ [])), 300 ∷ 700 ∷ [])
    ∷ (ends card (from 300 700 (W 0 0x0C ∷ [])), 300 ∷ 700 ∷ [])
    ∷ (ends card (from 300 700 (W 0 0x06 ∷ [])), 0 ∷ 0 ∷ [])
    -- 07: CSIZE to 11, the others to 0 except XLP and YLP
    ∷ (
      said card (W 0 8 ∷ frame [] ++ (VB false ∷ W 0 9 ∷ VB true ∷ VB false ∷ LP 63 255 ∷ W 1 0x7F ∷ W 2 0xF ∷ W 3 0x23 ∷ W 5 4 ∷ W 7 5
          ∷ from 300 700 (W 0 7 ∷ R 1 ∷ R 2 ∷ R 3 ∷ R 5 ∷ R 7 ∷ R 8 ∷ R 9 ∷ R 0xA ∷ R 0xB ∷ R 0xD ∷ []))),
      0 ∷ 0 ∷ 0x11 ∷ 0 ∷ 0 ∷ 0 ∷ 0 ∷ 0 ∷ 0 ∷ 255 ∷ [],
    )
    -- 0F is busy for one cycle and writes no dot
    ∷ (said card (pen (W 0 0x0F ∷ R 0 ∷ T 0 ∷ R 0 ∷ T 9 ∷ R 0 ∷ T 9 ∷ [])), 0x01 ∷ 0 ∷ 0x01 ∷ 1 ∷ 0x05 ∷ 0 ∷ [])
    ∷ (drawn card (pen (W 0 0x0F ∷ T 9 ∷ [])), dark Ef9366)
    ∷ []

-- STATUS and its flags ------------------------------------------------------------------------------------------------

unfoldable pub flag_readings : List Reading
flag_readings =
    -- ready's flag by a command without cycles, and by the last cycle of a vector; reading clears
    (said card (W 1 0x40 ∷ W 0 5 ∷ R 0 ∷ R 0 ∷ W 0 0x10 ∷ R 0 ∷ T 1 ∷ R 0 ∷ R 0 ∷ []), 0xC5 ∷ 0x05 ∷ 0x01 ∷ 1 ∷ 0xC5 ∷ 0x05 ∷ [])
    -- VB's flag by the rise and not by the level, and only while CTRL1 bit 5 is high; a later mask does not hide it
    ∷ (said card (VB true ∷ W 1 0x20 ∷ VB true ∷ R 0 ∷ VB false ∷ R 0 ∷ VB true ∷ W 1 0 ∷ R 0 ∷ R 0 ∷ []), 0x07 ∷ 0x05 ∷ 0xA7 ∷ 0x07 ∷ [])
    -- the pen's end by a VB rise; bit 0 is low from acceptance on
    ∷ (said card (W 1 0x10 ∷ W 0 8 ∷ R 0 ∷ VB true ∷ R 0 ∷ VB false ∷ R 0 ∷ VB true ∷ R 0 ∷ []), 0x04 ∷ 0x06 ∷ 0x04 ∷ 0x97 ∷ [])
    -- all three at one VB rise, and cleared together
    ∷ (
      said card (W 1 0x70 ∷ W 0 8 ∷ R 0 ∷ W 0 4 ∷ R 0 ∷ VB true ∷ R 0 ∷ VB false ∷ R 0 ∷ VB true ∷ R 0 ∷ R 0 ∷ []),
      0xC4 ∷ 0x00 ∷ 0xA2 ∷ 0x00 ∷ 0xF7 ∷ 0x07 ∷ [],
    )
    -- 07 keeps flags and pen sequence; CTRL1 is 0 from then on, so no flag is set after
    ∷ (said card (W 1 0x70 ∷ VB true ∷ W 0 8 ∷ W 0 7 ∷ R 0 ∷ VB false ∷ VB true ∷ R 0 ∷ []), 0xE2 ∷ 0x07 ∷ [])
    -- other reads leave the flags
    ∷ (said card (W 1 0x40 ∷ W 0 5 ∷ R 1 ∷ R 0xC ∷ R 0xD ∷ R 0 ∷ []), 0x40 ∷ 0 ∷ 0 ∷ 0xC5 ∷ [])
    -- bit 3 by format: the window's bits are no upper bits
    ∷ (said (new FmatHigh) (from 511 511 (R 0 ∷ from 512 0 (R 0 ∷ from 0 512 (R 0 ∷ [])))), 0x05 ∷ 0x0D ∷ 0x0D ∷ [])
    ∷ (said (new FmatLow) (from 255 255 (R 0 ∷ from 256 0 (R 0 ∷ from 0 256 (R 0 ∷ [])))), 0x05 ∷ 0x0D ∷ 0x0D ∷ [])
    ∷ (said card (from 511 255 (R 0 ∷ from 512 0 (R 0 ∷ from 0 256 (R 0 ∷ [])))), 0x05 ∷ 0x0D ∷ 0x0D ∷ [])
    ∷ []

-- Clears --------------------------------------------------------------------------------------------------------------

unfoldable pub full : Format → List ℕ
full Ef9366 = replicate 16384 255
full FmatHigh = replicate 32768 255
full FmatLow = replicate 8192 255

unfoldable pub clears : List Reading
clears =
    -- while a clear runs: writes refused with 6, 5 and 4 before it; reads allowed; cycles not used
    (
      said card (W 0 4 ∷ W 5 1 ∷ W 0 0 ∷ W 0xC 0 ∷ W 4 0 ∷ R 5 ∷ T 9 ∷ R 0 ∷ frame (R 0 ∷ W 5 1 ∷ R 5 ∷ [])),
      1006 ∷ 1006 ∷ 1005 ∷ 1004 ∷ 0 ∷ 0 ∷ 0x01 ∷ 0x07 ∷ 1 ∷ [],
    )
    -- 0C lights all with the pen, up or down, at the second rise and not before, with FMAT high at the third
    ∷ (drawn card (W 1 2 ∷ W 0 0x0C ∷ VB true ∷ VB false ∷ []), dark Ef9366)
    ∷ (drawn card (W 1 2 ∷ W 0 0x0C ∷ frame []), full Ef9366)
    ∷ (drawn (new FmatHigh) (W 1 2 ∷ W 0 0x0C ∷ frame (VB false ∷ VB true ∷ [])), full FmatHigh)
    ∷ (drawn (new FmatLow) (W 1 2 ∷ W 0 0x0C ∷ frame []), full FmatLow)
    -- accepted with VB high, the next fall opens the frame
    ∷ (drawn card (VB true ∷ W 1 2 ∷ W 0 0x0C ∷ VB false ∷ VB true ∷ []), full Ef9366)
    -- 0C with the eraser, 04, 06 and 07 with the pen: all dark
    ∷ (drawn card (W 1 2 ∷ W 0 0x0C ∷ frame (W 1 0 ∷ W 0 0x0C ∷ VB false ∷ VB true ∷ [])), dark Ef9366)
    ∷ (drawn card (W 1 2 ∷ W 0 0x0C ∷ frame (W 0 0x04 ∷ VB false ∷ VB true ∷ [])), dark Ef9366)
    ∷ (drawn card (W 1 2 ∷ W 0 0x0C ∷ frame (W 0 0x06 ∷ VB false ∷ VB true ∷ [])), dark Ef9366)
    ∷ (drawn card (W 1 2 ∷ W 0 0x0C ∷ frame (W 0 0x07 ∷ VB false ∷ VB true ∷ [])), dark Ef9366)
    ∷ []

-- The light pen -------------------------------------------------------------------------------------------------------

unfoldable pub light_pens : List Reading
light_pens =
    -- an edge before the frame, or after the end, does nothing; reading YLP clears XLP's lowest bit too
    (said card (LP 1 1 ∷ W 0 9 ∷ LP 2 2 ∷ VB true ∷ LP 3 3 ∷ VB false ∷ LP 10 20 ∷ LP 5 5 ∷ R 0xD ∷ R 0xC ∷ R 0 ∷ []), 20 ∷ 40 ∷ 0x05 ∷ [])
    -- a VB rise first loads nothing; a second 08 waits for a new frame
    ∷ (
      said card (W 0 8 ∷ frame (VB false ∷ LP 10 20 ∷ R 0xC ∷ []) ++ (W 0 8 ∷ VB true ∷ VB false ∷ W 0 8 ∷ LP 10 20 ∷ R 0 ∷ R 0xC ∷ [])),
      0 ∷ 0x04 ∷ 0 ∷ [],
    )
    -- 8 for h above 63 or v above 255, at any time, and the sequence goes on
    ∷ (
      said card (LP 64 0 ∷ LP 0 256 ∷ W 0 8 ∷ VB true ∷ VB false ∷ LP 64 0 ∷ R 0 ∷ LP 63 255 ∷ R 0xC ∷ R 0xD ∷ []),
      1008 ∷ 1008 ∷ 1008 ∷ 0x04 ∷ 253 ∷ 255 ∷ [],
    )
    ∷ []

-- Vectors -------------------------------------------------------------------------------------------------------------

-- by 2 and 1 from (10, 10), in the order of the low three bits; 80 to FF with lengths 2 and 1 are C8 to CF
unfoldable pub fan : List (List (ℕ × ℕ))
fan =
    ((10, 10) ∷ (11, 10) ∷ (12, 10) ∷ [])
    ∷ ((10, 10) ∷ (11, 11) ∷ (12, 11) ∷ [])
    ∷ ((10, 10) ∷ (10, 11) ∷ [])
    ∷ ((10, 10) ∷ (9, 11) ∷ (8, 11) ∷ [])
    ∷ ((10, 10) ∷ (10, 9) ∷ [])
    ∷ ((10, 10) ∷ (11, 9) ∷ (12, 9) ∷ [])
    ∷ ((10, 10) ∷ (9, 10) ∷ (8, 10) ∷ [])
    ∷ ((10, 10) ∷ (9, 9) ∷ (8, 9) ∷ [])
    ∷ []

unfoldable pub directions : ℕ → List (List (ℕ × ℕ)) → List Reading
directions d [] = []
directions d (ds ∷ rest) =
    (drawn card (pen (from 10 10 (draw 2 1 (0x10 + d)))), just Ef9366 ds)
    ∷ (drawn card (pen (from 10 10 (draw 0 0 (0xC8 + d)))), just Ef9366 ds)
    ∷ directions (suc d) rest

unfoldable pub vectors : List Reading
vectors =
    -- 1 along X and 2 along Y: the longer axis is Y
    (drawn card (pen (draw 1 2 0x11)), just Ef9366 ((0, 0) ∷ (1, 1) ∷ (1, 2) ∷ []))
    -- 18 to 1F take both as the larger first: along one axis, and along both
    ∷ (said card (pen (draw 1 9 0x18)), 10 ∷ [])
    ∷ (ends card (pen (draw 1 9 0x18)), 9 ∷ 0 ∷ [])
    ∷ (ends card (pen (from 20 20 (draw 9 1 0x1C))), 20 ∷ 11 ∷ [])
    ∷ (ends card (pen (from 20 20 (draw 4 9 0x1B))), 11 ∷ 29 ∷ [])
    ∷ (said card (pen (draw 4 9 0x1B ++ (R 5 ∷ R 7 ∷ []))), 10 ∷ 4 ∷ 9 ∷ [])
    -- F8 is four dots along X; 98 has no length along X: one dot
    ∷ (drawn card (pen (draw 0 0 0xF8)), just Ef9366 (row 0 0 4))
    ∷ (said card (pen (draw 9 9 0x98)), 1 ∷ [])
    -- between cycles X and Y stand on the next dot, at the end on the last; the first dots only are written
    ∷ (
      said card (pen (W 5 5 ∷ W 7 2 ∷ W 0 0x11 ∷ R 9 ∷ T 2 ∷ R 9 ∷ R 0xB ∷ T 3 ∷ R 9 ∷ R 0 ∷ T 9 ∷ R 9 ∷ R 0xB ∷ R 0 ∷ [])),
      0 ∷ 2 ∷ 2 ∷ 1 ∷ 3 ∷ 5 ∷ 0x01 ∷ 1 ∷ 5 ∷ 2 ∷ 0x05 ∷ [],
    )
    ∷ (drawn card (pen (W 5 5 ∷ W 7 2 ∷ W 0 0x11 ∷ T 2 ∷ [])), just Ef9366 ((0, 0) ∷ (1, 0) ∷ []))
    -- the eraser darkens its dots and no other
    ∷ (
      drawn card (W 1 2 ∷ W 0 0x0C ∷ frame (W 1 1 ∷ draw 5 2 0x11)),
      paint false (numbers Ef9366 ((0, 0) ∷ (1, 0) ∷ (2, 1) ∷ (3, 1) ∷ (4, 2) ∷ (5, 2) ∷ [])) (full Ef9366),
    )
    -- the pen up writes nothing, and moves
    ∷ (drawn card (W 1 2 ∷ draw 5 2 0x11), dark Ef9366)
    ∷ (ends card (W 1 2 ∷ draw 5 2 0x11), 5 ∷ 2 ∷ [])
    -- off the left and back in from 4,095; cyclic with FMAT low folds at 256
    ∷ (drawn card (pen (from 1 7 (draw 3 0 0x16))), just Ef9366 ((1, 7) ∷ (0, 7) ∷ []))
    ∷ (ends card (pen (from 1 7 (draw 3 0 0x16))), 4094 ∷ 7 ∷ [])
    ∷ (drawn (new FmatLow) (cyclic_pen (from 255 300 (draw 1 0 0x10))), just FmatLow ((255, 44) ∷ (0, 44) ∷ []))
    ∷ (drawn (new FmatHigh) (pen (from 511 510 (draw 1 3 0x11))), just FmatHigh ((511, 510) ∷ (511, 511) ∷ []))
    ∷ directions 0 fan

-- each line type past its period; it starts anew with each vector, and not with each grant
unfoldable pub line_types : List Reading
line_types =
    (drawn card (pen (W 2 0 ∷ draw 37 0 0x10)), just Ef9366 (row 0 0 38))
    ∷ (drawn card (pen (W 2 1 ∷ draw 13 0 0x10)), just Ef9366 (row 0 0 2 ++ (row 4 0 2 ++ (row 8 0 2 ++ row 12 0 2))))
    ∷ (drawn card (pen (W 2 2 ∷ draw 37 0 0x10)), just Ef9366 (row 0 0 4 ++ (row 8 0 4 ++ (row 16 0 4 ++ (row 24 0 4 ++ row 32 0 4)))))
    ∷ (drawn card (pen (W 2 3 ∷ draw 37 0 0x10)), just Ef9366 (row 0 0 10 ++ (row 12 0 2 ++ (row 16 0 10 ++ (row 28 0 2 ++ row 32 0 6)))))
    ∷ (drawn card (pen (W 2 1 ∷ draw 2 0 0x10 ++ draw 2 0 0x10)), just Ef9366 (row 0 0 4))
    ∷ (drawn card (pen (W 2 1 ∷ W 5 5 ∷ W 0 0x10 ∷ T 3 ∷ T 65535 ∷ [])), just Ef9366 (row 0 0 2 ++ row 4 0 2))
    ∷ []

-- Characters ----------------------------------------------------------------------------------------------------------

-- a table whose only glyph is that of code 41: bottom row in column 0, top row in column 1, second row in column 4
unfoldable pub lettered : Card
lettered =
    record {
      state = fresh Ef9366;
      memory = memory (dark Ef9366);
      tables = tables (replicate 165 0 ++ ((0x01 ∷ 0x80 ∷ 0x00 ∷ 0x00 ∷ 0x02 ∷ []) ++ replicate 310 0));
    }

-- at P = 2 and Q = 3 each dot is a rectangle of 2 by 3; turned, of 3 by 2, and the letter runs upwards
unfoldable pub letter : ℕ → List Event
letter ctrl2 = pen (from 100 50 (W 2 ctrl2 ∷ W 3 0x23 ∷ W 0 0x41 ∷ T 65535 ∷ []))

unfoldable pub characters : List Reading
characters =
    (drawn lettered (letter 0), just Ef9366 (box 100 50 2 3 ++ (box 102 71 2 3 ++ box 108 53 2 3)))
    ∷ (said lettered (letter 0), 288 ∷ [])
    ∷ (ends lettered (letter 0), 112 ∷ 50 ∷ [])
    ∷ (drawn lettered (letter 8), just Ef9366 (box 98 50 3 2 ++ (box 77 52 3 2 ++ box 95 58 3 2)))
    ∷ (said lettered (letter 8), 288 ∷ [])
    ∷ (ends lettered (letter 8), 100 ∷ 62 ∷ [])
    -- the line type has no effect on it
    ∷ (drawn lettered (letter 1), just Ef9366 (box 100 50 2 3 ++ (box 102 71 2 3 ++ box 108 53 2 3)))
    -- the codes beside it are blank, and take as long
    ∷ (drawn lettered (pen (W 0 0x40 ∷ T 65535 ∷ W 0 0x42 ∷ T 65535 ∷ [])), dark Ef9366)
    ∷ (said lettered (pen (W 0 0x20 ∷ T 65535 ∷ W 0 0x7F ∷ T 65535 ∷ [])), 48 ∷ 48 ∷ [])
    -- 0A lights 5P by 8Q of the 6P by 8Q; 0B lights 4P by 4Q
    ∷ (drawn card (pen (from 5 6 (W 3 0x12 ∷ W 0 0x0A ∷ T 65535 ∷ []))), just Ef9366 (box 5 6 5 16))
    ∷ (ends card (pen (from 5 6 (W 3 0x12 ∷ W 0 0x0A ∷ T 65535 ∷ []))), 11 ∷ 6 ∷ [])
    ∷ (drawn card (pen (from 5 6 (W 3 0x21 ∷ W 0 0x0B ∷ T 65535 ∷ []))), just Ef9366 (box 5 6 8 4))
    ∷ (said card (pen (from 5 6 (W 3 0x21 ∷ W 0 0x0B ∷ T 65535 ∷ []))), 32 ∷ [])
    ∷ (ends card (pen (from 5 6 (W 3 0x21 ∷ W 0 0x0B ∷ T 65535 ∷ []))), 13 ∷ 6 ∷ [])
    ∷ (ends card (pen (from 5 6 (W 2 8 ∷ W 3 0x21 ∷ W 0 0x0B ∷ T 65535 ∷ []))), 5 ∷ 14 ∷ [])
    ∷ (drawn card (pen (from 50 6 (W 2 8 ∷ W 3 0x21 ∷ W 0 0x0B ∷ T 65535 ∷ []))), just Ef9366 (box 47 6 4 8))
    -- between cycles X and Y stand on the place of the next cycle: v first, then u
    ∷ (ends card (from 5 6 (W 0 0x0A ∷ T 3 ∷ [])), 5 ∷ 9 ∷ [])
    ∷ (ends card (from 5 6 (W 0 0x0A ∷ T 8 ∷ [])), 6 ∷ 6 ∷ [])
    ∷ (ends card (from 5 6 (W 0 0x0A ∷ T 3 ∷ T 7 ∷ [])), 6 ∷ 8 ∷ [])
    ∷ (ends card (from 5 6 (W 2 8 ∷ W 0 0x0A ∷ T 10 ∷ [])), 3 ∷ 7 ∷ [])
    -- CSIZE 00 near 4,096: the place goes around, on the way and at the end
    ∷ (ends card (from 4090 4000 (W 3 0 ∷ W 0 0x41 ∷ T 127 ∷ [])), 4090 ∷ 31 ∷ [])
    ∷ (ends card (from 4090 4000 (W 3 0 ∷ W 0 0x41 ∷ T 896 ∷ [])), 1 ∷ 4000 ∷ [])
    ∷ (ends card (from 4090 4000 (W 3 0 ∷ W 0 0x41 ∷ T 896 ∷ T 65535 ∷ [])), 90 ∷ 4000 ∷ [])
    ∷ (ends card (from 100 4090 (W 2 8 ∷ W 3 0 ∷ W 0 0x41 ∷ T 127 ∷ [])), 4069 ∷ 4090 ∷ [])
    ∷ (ends card (from 100 4090 (W 2 8 ∷ W 3 0 ∷ W 0 0x41 ∷ T 127 ∷ T 65535 ∷ [])), 100 ∷ 90 ∷ [])
    ∷ []

-- Address outputs -----------------------------------------------------------------------------------------------------

-- the outputs as one bit after the other of X is high, and of Y
unfoldable pub walk_x : Format → ℕ → List ℕ
walk_x f zero = []
walk_x f (suc k) = walk_x f k ++ addressed (new f) (from (2 ^ k) 0 [])

unfoldable pub walk_y : Format → ℕ → List ℕ
walk_y f zero = []
walk_y f (suc k) = walk_y f k ++ addressed (new f) (from 0 (2 ^ k) [])

unfoldable pub addresses : List Reading
addresses = (
  walk_x Ef9366 9 ++ walk_y Ef9366 8,
  0 ∷ 0 ∷ 9 ∷ 0 ∷ 0 ∷ 10 ∷ 0 ∷ 0 ∷ 12 ∷ 32 ∷ 0 ∷ 8 ∷ 16 ∷ 0 ∷ 8 ∷ 8 ∷ 0 ∷ 8 ∷ 4 ∷ 0 ∷ 8 ∷ 2 ∷ 0 ∷ 8 ∷ 1 ∷ 0 ∷ 8
      ∷ 64 ∷ 0 ∷ 8 ∷ 0 ∷ 64 ∷ 8 ∷ 0 ∷ 32 ∷ 8 ∷ 0 ∷ 16 ∷ 8 ∷ 0 ∷ 8 ∷ 8 ∷ 0 ∷ 4 ∷ 8 ∷ 0 ∷ 2 ∷ 8 ∷ 0 ∷ 1 ∷ 8 ∷ [],
)
    ∷ (
      walk_x FmatHigh 9 ++ walk_y FmatHigh 9,
      0 ∷ 0 ∷ 1 ∷ 0 ∷ 0 ∷ 2 ∷ 0 ∷ 0 ∷ 4 ∷ 32 ∷ 0 ∷ 0 ∷ 16 ∷ 0 ∷ 0 ∷ 8 ∷ 0 ∷ 0 ∷ 4 ∷ 0 ∷ 0 ∷ 2 ∷ 0 ∷ 0 ∷ 1 ∷ 0 ∷ 0
          ∷ 0 ∷ 64 ∷ 0 ∷ 64 ∷ 0 ∷ 0 ∷ 0 ∷ 0 ∷ 8 ∷ 0 ∷ 32 ∷ 0 ∷ 0 ∷ 16 ∷ 0 ∷ 0 ∷ 8 ∷ 0 ∷ 0 ∷ 4 ∷ 0 ∷ 0 ∷ 2 ∷ 0 ∷ 0 ∷ 1 ∷ 0 ∷ [],
    )
    ∷ (
      walk_x FmatLow 8 ++ walk_y FmatLow 8,
      0 ∷ 0 ∷ 13 ∷ 0 ∷ 0 ∷ 11 ∷ 32 ∷ 0 ∷ 14 ∷ 16 ∷ 0 ∷ 14 ∷ 8 ∷ 0 ∷ 14 ∷ 4 ∷ 0 ∷ 14 ∷ 2 ∷ 0 ∷ 14 ∷ 1 ∷ 0 ∷ 14
          ∷ 64 ∷ 0 ∷ 14 ∷ 0 ∷ 64 ∷ 14 ∷ 0 ∷ 32 ∷ 14 ∷ 0 ∷ 16 ∷ 14 ∷ 0 ∷ 8 ∷ 14 ∷ 0 ∷ 4 ∷ 14 ∷ 0 ∷ 2 ∷ 14 ∷ 0 ∷ 1 ∷ 14 ∷ [],
    )
    -- X mod 4 = 3 lowers the last line; positions outside show no upper bits
    ∷ (addressed (new FmatLow) (from 3 0 []), 0 ∷ 0 ∷ 7 ∷ [])
    ∷ (addressed card (from 0xE00 0xF00 []), 0 ∷ 0 ∷ 8 ∷ [])
    ∷ (addressed (new FmatHigh) (from 341 298 []), 85 ∷ 41 ∷ 5 ∷ [])
    ∷ []

-- States refused with 1 -----------------------------------------------------------------------------------------------

-- the number that each of the six calls gives a state, its memories being of the right length
unfoldable pub six : State → List ℕ
six s =
    (written s 5 0).number
    ∷ (read_out s 0).number
    ∷ (granted s 0 (memory (dark Ef9366)) (tables blank)).answer.number
    ∷ (blanked s s.vb (memory (dark Ef9366))).answer.number
    ∷ (struck s 0 0).number
    ∷ (located s).number
    ∷ []

unfoldable pub with_row : ℕ → ℕ → ℕ → ℕ → ℕ → State
with_row x y c1 c2 xl = with_regs (regs c1 c2 0x11 0 0 x y xl 255) (fresh Ef9366)

-- a state in which code c runs with p cycles used, under a CTRL2
unfoldable pub running : ℕ → ℕ → ℕ → State
running c2 c p = with_work (Steps c p) (with_row 0 0 0 c2 0)

-- a clear inside its first frame
unfoldable pub in_frame : Frames
in_frame = record { inside = true; over = 0 }

-- the numbers that reading STATUS gives while each code below c is said to run
unfoldable pub codes : ℕ → List ℕ
codes zero = []
codes (suc c) = codes c ++ ((read_out (running 0 c 0) 0).number ∷ [])

unfoldable pub refused : List ℕ
refused = 1 ∷ 1 ∷ 1 ∷ 1 ∷ 1 ∷ 1 ∷ []

unfoldable pub taken : List ℕ
taken = 0 ∷ 0 ∷ 0 ∷ 0 ∷ 0 ∷ 0 ∷ []

-- while a command runs, the write is refused with 6
unfoldable pub taken_busy : List ℕ
taken_busy = 6 ∷ 0 ∷ 0 ∷ 0 ∷ 0 ∷ 0 ∷ []

unfoldable pub states : List Reading
states =
    (six (with_row 4095 4095 127 15 0xFD), taken)
    ∷ (six (with_row 4096 0 0 0 0), refused)
    ∷ (six (with_row 0 4096 0 0 0), refused)
    ∷ (six (with_row 0 0 128 0 0), refused)
    ∷ (six (with_row 0 0 0 16 0), refused)
    ∷ (six (with_row 0 0 0 0 2), refused)
    -- of 00 to 0F only 0A, 0B and 0F can be under way; every vector and character can
    ∷ (codes 18, 1 ∷ 1 ∷ 1 ∷ 1 ∷ 1 ∷ 1 ∷ 1 ∷ 1 ∷ 1 ∷ 1 ∷ 0 ∷ 0 ∷ 1 ∷ 1 ∷ 1 ∷ 0 ∷ 0 ∷ 0 ∷ [])
    ∷ (six (running 0 0x08 0), refused)
    -- a progress not below the count
    ∷ (six (running 0 0x0F 0), taken_busy)
    ∷ (six (running 0 0x0F 1), refused)
    ∷ (six (running 0 0x11 1), refused)
    ∷ (six (running 0 0xF8 3), taken_busy)
    ∷ (six (running 0 0xF8 4), refused)
    ∷ (six (running 0 0x41 47), taken_busy)
    ∷ (six (running 0 0x41 48), refused)
    ∷ (six (running 0 0x0B 15), taken_busy)
    ∷ (six (running 0 0x0B 16), refused)
    -- with tilt high a character may run as a vector and 0F may
    ∷ (six (running 4 0x20 0), taken_busy)
    ∷ (six (running 4 0x0A 47), taken_busy)
    ∷ (six (running 4 0x0A 48), refused)
    ∷ (six (running 4 0x0B 15), taken_busy)
    ∷ (six (running 4 0x0B 16), refused)
    ∷ (six (running 4 0x11 0), taken_busy)
    ∷ (six (running 4 0x0F 0), taken_busy)
    -- VB high inside an open frame
    ∷ (six (with_vb true (with_work (Clear false in_frame) (fresh Ef9366))), refused)
    ∷ (six (with_vb true (with_work (Clear true no_frames) (fresh Ef9366))), taken_busy)
    ∷ (six (with_work (Clear true in_frame) (fresh Ef9366)), taken_busy)
    ∷ (six (with_vb true (with_light_pen Open (fresh Ef9366))), refused)
    ∷ (six (with_vb true (with_light_pen Waiting (fresh Ef9366))), taken)
    ∷ (six (with_light_pen Open (fresh Ef9366)), taken)
    -- 1 before 2, 2 before 3, 1 before 4 and 8
    ∷ (
      (granted (with_row 4096 0 0 0 0) 1 (memory []) (tables [])).answer.number
          ∷ (granted (fresh Ef9366) 0 (memory []) (tables [])).answer.number
          ∷ (granted (fresh Ef9366) 0 (memory (dark Ef9366)) (tables [])).answer.number
          ∷ (granted (fresh FmatLow) 0 (memory (dark Ef9366)) (tables blank)).answer.number
          ∷ (blanked (fresh FmatHigh) false (memory (dark Ef9366))).answer.number
          ∷ (written (with_row 4096 0 0 0 0) 4 0).number
          ∷ (struck (with_row 4096 0 0 0 0) 64 0).number
          ∷ [],
      1 ∷ 2 ∷ 3 ∷ 2 ∷ 2 ∷ 1 ∷ 1 ∷ [],
    )
    ∷ []

unfoldable pub more_readings : List Reading
more_readings =
    registers ++ (prompts ++ (flag_readings ++ (clears ++ (light_pens
    ++ (vectors ++ (line_types ++ (characters ++ (addresses ++ states))))))))
