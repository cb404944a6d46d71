-- A third table of readings: small things that both tables before it would let pass if code and definition had them
-- wrong alike. Each row's right side was worked out by hand from the paper.
-- Assumes nothing.
use Rattle.std.specs.Prelude.{ℕ, ◌^◌, true, false, List, [], ◌∷◌, ◌++◌, get_or, replicate}
use Rattle.basis.specs.Reading.{Reading}
use Rattle.picture.specs.Dot.{paint}
use Rattle.parts.specs.declared.format.Format.TheVariants.{Ef9366, FmatHigh, FmatLow}
use Rattle.rules.specs.State.{fresh}
use Rattle.rules.specs.Figure.{tables}
use Rattle.rules.specs.Calls.{memory, read_out, granted}
use Rattle.rules.specs.Card.{Card, Event, W, R, T, VB, LP}
use Rattle.rules.specs.Tables.Play.{said, drawn, ends, new, dark, box, numbers, just}
use Rattle.rules.specs.Tables.Readings.{card, pen, cyclic_pen, from, draw, off_right, off_top}
use Rattle.rules.specs.Tables.MoreReadings.{frame, full, with_row, running}

-- a dot at (x, y) alone
unfoldable pub dotted : ℕ → ℕ → List Event
dotted x y = pen (from x y (draw 0 0 0x11))

-- dot (X, Y) is bit X mod 8, 0 the lowest, of byte Y × (width / 8) + X / 8: the bytes themselves
unfoldable pub bytes_lit : List Reading
bytes_lit =
    (get_or (drawn card (dotted 300 100)) 6437 0 ∷ [], 0x10 ∷ [])
    ∷ (get_or (drawn card (dotted 0 0)) 0 0 ∷ get_or (drawn card (dotted 7 0)) 0 0 ∷ [], 0x01 ∷ 0x80 ∷ [])
    ∷ (get_or (drawn (new FmatHigh) (dotted 510 511)) 32767 0 ∷ [], 0x40 ∷ [])
    ∷ (get_or (drawn (new FmatLow) (dotted 9 1)) 33 0 ∷ [], 0x02 ∷ [])
    ∷ []

-- a table whose only dots are the bottom row of column 0 in its first glyph and the top row of column 4 in its last
unfoldable pub edged : Card
edged =
    record {
      state = fresh Ef9366;
      memory = memory (dark Ef9366);
      tables = tables ((0x01 ∷ []) ++ (replicate 478 0 ++ (0x80 ∷ [])));
    }

-- a pen sequence whose frame is open
unfoldable pub aimed : List Event → List Event
aimed es = W 0 8 ∷ VB true ∷ VB false ∷ es

-- code 10 with a grant of 2^k cycles
unfoldable pub sized : ℕ → List Event
sized k = W 0 0x10 ∷ T (2 ^ k) ∷ []

unfoldable pub fine_readings : List Reading
fine_readings =
    bytes_lit
    ++ (
    -- the glyphs go from code 20 to code 7F
    (drawn edged (pen (W 0 0x20 ∷ T 65535 ∷ W 0 0x7F ∷ T 65535 ∷ [])), just Ef9366 ((0, 0) ∷ (10, 7) ∷ []))
    -- CTRL1 bit 2, fast writing, is only stored: the screen stays as it is
    ∷ (drawn card (W 1 7 ∷ from 517 3 (draw 0 0 0x11)), dark Ef9366)
    -- a half of Y leaves the other half
    ∷ (said card (W 0xB 0xAB ∷ W 0xA 0x03 ∷ R 0xB ∷ W 0xB 0x12 ∷ R 0xA ∷ []), 0xAB ∷ 0x03 ∷ [])
    -- 07 leaves XLP and YLP, XLP's lowest bit too
    ∷ (said card (aimed (LP 63 254 ∷ W 0 7 ∷ R 0xC ∷ R 0xD ∷ [])), 253 ∷ 254 ∷ [])
    -- the pen's flag by an LPCK edge
    ∷ (said card (W 1 0x10 ∷ aimed (LP 1 2 ∷ R 0 ∷ [])), 0x95 ∷ [])
    -- cycles are used while the pen's frame is open, and while VB is high
    ∷ (said card (aimed (W 5 5 ∷ W 0 0x10 ∷ T 2 ∷ R 9 ∷ T 9 ∷ R 9 ∷ R 0 ∷ [])), 2 ∷ 2 ∷ 4 ∷ 5 ∷ 0x04 ∷ [])
    ∷ (said card (VB true ∷ W 0 8 ∷ W 5 5 ∷ W 0 0x10 ∷ T 2 ∷ R 9 ∷ T 9 ∷ R 9 ∷ R 0 ∷ []), 2 ∷ 2 ∷ 4 ∷ 5 ∷ 0x06 ∷ [])
    -- a cyclic screen folds the dots alone: X and Y go on past the window, and STATUS shows it
    ∷ (ends card (cyclic_pen off_top) ++ said card (cyclic_pen off_top), 0 ∷ 257 ∷ 4 ∷ 0x0D ∷ [])
    ∷ (
      ends card (cyclic_pen off_right) ++ ends card (cyclic_pen (from 4094 700 (W 5 2 ∷ W 0 0x10 ∷ T 1 ∷ []))),
      1 ∷ 0 ∷ 4095 ∷ 700 ∷ [],
    )
    -- the eraser darkens the dots of a block and of a cell
    ∷ (
      drawn (new FmatLow) (W 1 2 ∷ W 0 0x0C ∷ frame (W 1 1 ∷ W 0 0x0B ∷ T 65535 ∷ W 0 0x0A ∷ T 65535 ∷ [])),
      paint false (numbers FmatLow (box 0 0 4 4 ++ box 4 0 5 8)) (full FmatLow),
    )
    -- the 256 cycles of DELTAX 255 by grants of 256, 512 and so on to 32,768
    ∷ (
      said card (W 5 255 ∷ sized 8 ++ (sized 9 ++ (sized 10 ++ (sized 11 ++ (sized 12 ++ (sized 13 ++ (sized 14 ++ sized 15))))))),
      replicate 8 256,
    )
    -- a refusal gives value 0
    ∷ (
      (read_out (with_row 4096 0 0x7F 0 0) 1).value
          ∷ (read_out (with_row 1 2 3 4 0) 6).value
          ∷ (granted (running 0 0x41 0) 9 (memory []) (tables [])).answer.value
          ∷ [],
      0 ∷ 0 ∷ 0 ∷ [],
    )
    ∷ []
    )
