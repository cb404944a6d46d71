-- The readings that document 01 marks [P], as one table. EF9366, CTRL1 = 3, X = Y = 0, CSIZE 11 unless said.
-- Assumes nothing.
use Rattle.std.specs.Prelude.{ℕ, ◌/◌, ◌%◌, true, false, List, [], ◌∷◌}
use Rattle.basis.specs.Reading.{Reading}
use Rattle.picture.specs.Screen.{dot_number}
use Rattle.parts.specs.declared.format.Format.TheVariants.{Ef9366}
use Rattle.rules.specs.Card.{Card, Event, W, R, T, VB, LP}
use Rattle.rules.specs.Tables.Play.{said, drawn, ends, addressed, new, just}

unfoldable pub card : Card
card = new Ef9366

-- the pen is down; and the screen is cyclic
unfoldable pub pen : List Event → List Event
pen es = W 0x1 0x03 ∷ es

unfoldable pub cyclic_pen : List Event → List Event
cyclic_pen es = W 0x1 0x0B ∷ es

-- X and Y, DELTAX and DELTAY, and a command with cycles to spare
unfoldable pub from : ℕ → ℕ → List Event → List Event
from x y es = W 0x8 (x / 256) ∷ W 0x9 (x % 256) ∷ W 0xA (y / 256) ∷ W 0xB (y % 256) ∷ es

unfoldable pub draw : ℕ → ℕ → ℕ → List Event
draw dx dy code = W 0x5 dx ∷ W 0x7 dy ∷ W 0x0 code ∷ T 65535 ∷ []

unfoldable pub off_right : List Event
off_right = from 4095 0 (draw 2 0 0x10)

unfoldable pub off_top : List Event
off_top = from 0 254 (W 0x7 3 ∷ W 0x0 0x12 ∷ T 65535 ∷ R 0x0 ∷ [])

-- every dot of a character cell, at a CSIZE
unfoldable pub cell : ℕ → List Event
cell csize = W 0x3 csize ∷ W 0x0 0x0A ∷ T 65535 ∷ []

unfoldable pub readings : List Reading
readings =
    -- fresh STATUS 05
    (said card (R 0x0 ∷ []), 0x05 ∷ [])
    -- DELTAX 5, DELTAY 2, 11
    ∷ (drawn card (pen (draw 5 2 0x11)), just Ef9366 ((0, 0) ∷ (1, 0) ∷ (2, 1) ∷ (3, 1) ∷ (4, 2) ∷ (5, 2) ∷ []))
    -- 2 and 1, 17 from (10, 10)
    ∷ (drawn card (pen (from 10 10 (draw 2 1 0x17))), just Ef9366 ((10, 10) ∷ (9, 9) ∷ (8, 9) ∷ []))
    -- both 0, 11: one dot, one cycle
    ∷ (drawn card (pen (draw 0 0 0x11)), just Ef9366 ((0, 0) ∷ []))
    ∷ (said card (pen (draw 0 0 0x11)), 1 ∷ [])
    -- X 4095, DELTAX 2, 10: three cycles, X ends 1; cyclic: (511, 0) too
    ∷ (said card (pen off_right), 3 ∷ [])
    ∷ (drawn card (pen off_right), just Ef9366 ((0, 0) ∷ (1, 0) ∷ []))
    ∷ (ends card (pen off_right), 1 ∷ 0 ∷ [])
    ∷ (drawn card (cyclic_pen off_right), just Ef9366 ((511, 0) ∷ (0, 0) ∷ (1, 0) ∷ []))
    -- Y 254, DELTAY 3, 12: Y ends 257, STATUS 0D; cyclic: also 0 and 1
    ∷ (drawn card (pen off_top), just Ef9366 ((0, 254) ∷ (0, 255) ∷ []))
    ∷ (ends card (pen off_top), 0 ∷ 257 ∷ [])
    ∷ (said card (pen off_top), 4 ∷ 0x0D ∷ [])
    ∷ (drawn card (cyclic_pen off_top), just Ef9366 ((0, 254) ∷ (0, 255) ∷ (0, 0) ∷ (0, 1) ∷ []))
    -- E9
    ∷ (drawn card (pen (draw 0 0 0xE9)), just Ef9366 ((0, 0) ∷ (1, 0) ∷ (2, 1) ∷ (3, 1) ∷ []))
    -- line type 1, DELTAX 5, 10
    ∷ (drawn card (pen (W 0x2 1 ∷ draw 5 0 0x10)), just Ef9366 ((0, 0) ∷ (1, 0) ∷ (4, 0) ∷ (5, 0) ∷ []))
    -- DELTAX 3, DELTAY 1, 19: four dots, ends (3, 3)
    ∷ (drawn card (pen (draw 3 1 0x19)), just Ef9366 ((0, 0) ∷ (1, 1) ∷ (2, 2) ∷ (3, 3) ∷ []))
    ∷ (ends card (pen (draw 3 1 0x19)), 3 ∷ 3 ∷ [])
    -- CSIZE 00, 0A: 12,288 cycles, X grows by 96; CSIZE 11: 48
    ∷ (said card (pen (cell 0x00)), 12288 ∷ [])
    ∷ (ends card (pen (cell 0x00)), 96 ∷ 0 ∷ [])
    ∷ (said card (pen (cell 0x11)), 48 ∷ [])
    -- address of (300, 100): 41, 38, MSL 12; byte 6,437 bit 4
    ∷ (addressed card (from 300 100 []), 41 ∷ 38 ∷ 12 ∷ [])
    ∷ (dot_number 512 300 100 / 8 ∷ dot_number 512 300 100 % 8 ∷ [], 6437 ∷ 4 ∷ [])
    -- pen edge at h 10, v 20 in the open frame: XLP reads 41, then 40
    ∷ (said card (W 0x0 0x08 ∷ VB true ∷ VB false ∷ LP 10 20 ∷ R 0xC ∷ R 0xC ∷ []), 41 ∷ 40 ∷ [])
    ∷ []
