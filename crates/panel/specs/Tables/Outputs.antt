-- The lines that the panel writes, what each record answers and does, and the dots at the end. 9 is the tab, 10 the line feed,
-- 48 to 57 are the digits, 65 to 70 A to F.
-- Assumes nothing.
use Rattle.std.specs.Prelude.{ℕ, ◌+◌, ◌*◌, ◌^◌, true, false, List, [], ◌∷◌, ◌++◌, replicate}
use Rattle.basis.specs.Reading.{Reading, joined}
use Rattle.parts.specs.declared.format.Format.TheVariants.{Ef9366}
use Rattle.rules.specs.State.{with_x, with_regs, fresh}
use Rattle.rules.specs.Figure.{tables}
use Rattle.rules.specs.Calls.{memory}
use Rattle.rules.specs.Card.{Card}
use Rattle.gdp.specs.Tables.Rows.{over, state_row}
use Rattle.panel.specs.Record.{Record, Write, Read, Cycles, Blanking, Edge, Malformed}
use Rattle.panel.specs.Answer.{line_g, line_r, line_t, line_e, line_p, answered}
use Rattle.panel.specs.Panel.{card, card_after, answer_to, answers, shown, dot_lines, panel, longest}

-- Lines ---------------------------------------------------------------------------------------------------------------

unfoldable pub hex_letters : List ℕ
hex_letters = 48 ∷ 49 ∷ 50 ∷ 51 ∷ 52 ∷ 53 ∷ 54 ∷ 55 ∷ 56 ∷ 57 ∷ 65 ∷ 66 ∷ 67 ∷ 68 ∷ 69 ∷ 70 ∷ []

unfoldable pub lines : List Reading
lines =
    -- G, 9366
    (line_g, 71 ∷ 9 ∷ 57 ∷ 51 ∷ 54 ∷ 54 ∷ 10 ∷ [])
    -- R, address, two-digit hex value
    ∷ (joined (λ (a : ℕ). line_r a 0x3C) 0 16, over hex_letters (λ (c : ℕ). 82 ∷ 9 ∷ c ∷ 9 ∷ 51 ∷ 67 ∷ 10 ∷ []))
    ∷ (
      joined (λ (v : ℕ). line_r 0xD v) 0 256,
      over hex_letters (λ (h : ℕ). over hex_letters (λ (l : ℕ). 82 ∷ 9 ∷ 68 ∷ 9 ∷ h ∷ l ∷ 10 ∷ [])),
    )
    ∷ (line_r 5 0x1A5, 82 ∷ 9 ∷ 53 ∷ 9 ∷ 65 ∷ 53 ∷ 10 ∷ [])
    -- T, cycles used
    ∷ (
      line_t 0 ++ (line_t 10 ++ line_t 1234),
      84 ∷ 9 ∷ 48 ∷ 10 ∷ 84 ∷ 9 ∷ 49 ∷ 48 ∷ 10 ∷ 84 ∷ 9 ∷ 49 ∷ 50 ∷ 51 ∷ 52 ∷ 10 ∷ [],
    )
    -- the cycles of the largest character; the last line that a log may have
    ∷ (
      line_t 12288 ++ line_e 65536 20,
      84 ∷ 9 ∷ 49 ∷ 50 ∷ 50 ∷ 56 ∷ 56 ∷ 10 ∷ 69 ∷ 9 ∷ 54 ∷ 53 ∷ 53 ∷ 51 ∷ 54 ∷ 9 ∷ 50 ∷ 48 ∷ 10 ∷ [],
    )
    -- E, line number, number
    ∷ (
      line_e 0 21 ++ (line_e 12 6 ++ line_e 1000 20),
      69 ∷ 9 ∷ 48 ∷ 9 ∷ 50 ∷ 49 ∷ 10 ∷ 69 ∷ 9 ∷ 49 ∷ 50 ∷ 9 ∷ 54 ∷ 10
          ∷ 69 ∷ 9 ∷ 49 ∷ 48 ∷ 48 ∷ 48 ∷ 9 ∷ 50 ∷ 48 ∷ 10 ∷ [],
    )
    -- P, x, y
    ∷ (
      line_p 0 7 ++ (line_p 10 9 ++ line_p 511 255),
      80 ∷ 9 ∷ 48 ∷ 9 ∷ 55 ∷ 10 ∷ 80 ∷ 9 ∷ 49 ∷ 48 ∷ 9 ∷ 57 ∷ 10 ∷ 80 ∷ 9 ∷ 53 ∷ 49 ∷ 49 ∷ 9 ∷ 50 ∷ 53 ∷ 53 ∷ 10 ∷ [],
    )
    -- an accepted call has its own text, a refused one E
    ∷ (
      answered 12 0 (1 ∷ 2 ∷ []) ++ joined (λ (n : ℕ). answered 12 n (1 ∷ 2 ∷ [])) 1 9,
      1 ∷ 2 ∷ joined (λ (n : ℕ). 69 ∷ 9 ∷ 49 ∷ 50 ∷ 9 ∷ (48 + n) ∷ 10 ∷ []) 1 9,
    )
    ∷ (answered 3 0 [], [])
    -- a buffer that holds every output: 7 for G, 11 for each of 65,536 lines, 10 for each of 131,072 dots, and 25
    ∷ (longest ∷ longest ∷ [], 2031648 ∷ (7 + 11 * 65536 + 10 * 131072 + 25) ∷ [])
    ∷ []

-- Records played ------------------------------------------------------------------------------------------------------

-- line 12 refused with a number below 10, and malformed
unfoldable pub e12 : ℕ → List ℕ
e12 n = 69 ∷ 9 ∷ 49 ∷ 50 ∷ 9 ∷ (48 + n) ∷ 10 ∷ []

unfoldable pub e12_20 : List ℕ
e12_20 = 69 ∷ 9 ∷ 49 ∷ 50 ∷ 9 ∷ 50 ∷ 48 ∷ 10 ∷ []

-- R at an address, with its value
unfoldable pub r12 : ℕ → ℕ → ℕ → List ℕ
r12 a h l = 82 ∷ 9 ∷ a ∷ 9 ∷ h ∷ l ∷ 10 ∷ []

-- some records in a row
unfoldable pub after : Card → List Record → Card
after c [] = c
after c (r ∷ rs) = after (card_after c r) rs

-- a card that draws the vector of document 01's example; one with a flag set; one whose pen frame is open; one of tilted letters
unfoldable pub drawing : Card
drawing = after card (Write 1 3 ∷ Write 5 5 ∷ Write 7 2 ∷ Write 0 0x11 ∷ [])

-- one whose vector is the longest
unfoldable pub stretched : Card
stretched = after card (Write 5 255 ∷ Write 0 0x10 ∷ [])

unfoldable pub flagged : Card
flagged = after card (Write 1 0x40 ∷ Write 0 5 ∷ [])

unfoldable pub aimed : Card
aimed = after card (Write 0 8 ∷ Blanking true ∷ Blanking false ∷ [])

unfoldable pub tilted : Card
tilted = after card (Write 2 4 ∷ [])

-- cards that no log leads to: X above 4,095, a picture or a table of a wrong length
unfoldable pub lost : Card
lost = record { state = with_regs (with_x 4096 (fresh Ef9366).regs) (fresh Ef9366); memory = card.memory; tables = card.tables }

unfoldable pub pictureless : Card
pictureless = record { state = fresh Ef9366; memory = memory []; tables = card.tables }

unfoldable pub tableless : Card
tableless = record { state = fresh Ef9366; memory = card.memory; tables = tables [] }

unfoldable pub tries : List Record
tries = Write 5 1 ∷ Read 3 ∷ Cycles 4 ∷ Blanking true ∷ Edge 1 2 ∷ Malformed ∷ []

unfoldable pub of_tries : Card → List ℕ
of_tries c = over tries (answer_to 12 c)

unfoldable pub played : List Reading
played =
    -- on the fresh card: a write, a VB call and an edge answer nothing, a read its value, a grant the cycles used
    (of_tries card, 82 ∷ 9 ∷ 51 ∷ 9 ∷ 49 ∷ 49 ∷ 10 ∷ 84 ∷ 9 ∷ 48 ∷ 10 ∷ e12_20)
    ∷ (of_tries drawing, e12 6 ++ (82 ∷ 9 ∷ 51 ∷ 9 ∷ 49 ∷ 49 ∷ 10 ∷ 84 ∷ 9 ∷ 52 ∷ 10 ∷ e12_20))
    ∷ (answer_to 12 drawing (Cycles 9) ++ answer_to 12 drawing (Read 0), 84 ∷ 9 ∷ 54 ∷ 10 ∷ 82 ∷ 9 ∷ 48 ∷ 9 ∷ 48 ∷ 49 ∷ 10 ∷ [])
    -- each refused, with each number that a call gives
    ∷ (of_tries lost, joined (λ (k : ℕ). e12 1) 0 5 ++ e12_20)
    ∷ (answer_to 12 pictureless (Cycles 1) ++ (answer_to 12 pictureless (Blanking false) ++ answer_to 12 tableless (Cycles 1)), e12 2 ++ (e12 2 ++ e12 3))
    ∷ (answer_to 12 card (Write 4 1) ++ (answer_to 12 card (Read 6) ++ answer_to 12 card (Write 0xC 1)), e12 4 ++ (e12 4 ++ e12 5))
    ∷ (answer_to 12 card (Edge 64 0) ++ answer_to 12 card (Edge 0 256), e12 8 ++ e12 8)
    -- a tilted character is taken, and runs
    ∷ (answer_to 12 tilted (Write 0 0x41) ++ (answer_to 12 (after tilted (Write 0 0x41 ∷ [])) (Cycles 99)), 84 ∷ 9 ∷ 52 ∷ 56 ∷ 10 ∷ [])
    ∷ (answer_to 7 card Malformed, 69 ∷ 9 ∷ 55 ∷ 9 ∷ 50 ∷ 48 ∷ 10 ∷ [])
    -- every address read on the fresh card: STATUS 05, CSIZE 11, the others 00, and 4 at 4, 6, E and F
    ∷ (
      joined (λ (a : ℕ). answer_to 12 card (Read a)) 0 16,
      r12 48 48 53 ++ (r12 49 48 48 ++ (r12 50 48 48 ++ (r12 51 49 49 ++ (e12 4 ++ (r12 53 48 48 ++ (e12 4 ++ (r12 55 48 48
          ++ (r12 56 48 48 ++ (r12 57 48 48 ++ (r12 65 48 48 ++ (r12 66 48 48 ++ (r12 67 48 48 ++ (r12 68 48 48 ++ (e12 4 ++ e12 4)))))))))))))),
    )
    -- every address written there: 5 at C and D, 4 at 4, 6, E and F
    ∷ (joined (λ (a : ℕ). answer_to 12 card (Write a 7)) 1 15, e12 4 ++ (e12 4 ++ (e12 5 ++ (e12 5 ++ (e12 4 ++ e12 4)))))
    -- 256 cycles of a vector, by 256 and by more
    ∷ (
      answer_to 12 stretched (Cycles 256) ++ (answer_to 12 stretched (Cycles 32768) ++ answer_to 12 stretched (Cycles 65535)),
      joined (λ (k : ℕ). 84 ∷ 9 ∷ 50 ∷ 53 ∷ 54 ∷ 10 ∷ []) 0 3,
    )
    ∷ []

-- Cards ---------------------------------------------------------------------------------------------------------------

-- the state, in the row of crate gdp's tables: the registers, the format, what runs, the pen, VB and the flags
unfoldable pub state_after : Card → Record → List ℕ
state_after c r = state_row (card_after c r).state

-- the fresh registers but for CTRL1, DELTAX, DELTAY, X, Y
unfoldable pub expect : ℕ → ℕ → ℕ → ℕ → ℕ → List ℕ → List ℕ
expect c1 dx dy x y rest = c1 ∷ 0 ∷ 0x11 ∷ dx ∷ dy ∷ x ∷ y ∷ 0 ∷ 0 ∷ 0 ∷ rest

unfoldable pub still : List ℕ
still = replicate 8 0

unfoldable pub cards : List Reading
cards =
    -- a fresh EF9366 with a dark picture and an all-zero character table
    (state_row card.state, expect 0 0 0 0 0 still)
    ∷ (card.memory.picture, replicate 16384 0)
    ∷ (card.tables.characters, replicate 480 0)
    -- a write, accepted and refused
    ∷ (state_after card (Write 5 7), expect 0 7 0 0 0 still)
    ∷ (state_after card (Write 9 5), expect 0 0 0 5 0 still)
    ∷ (state_after card (Write 4 7), expect 0 0 0 0 0 still)
    ∷ (
      over (0x1 ∷ 0x2 ∷ 0x3 ∷ 0x5 ∷ 0x7 ∷ 0x8 ∷ 0x9 ∷ 0xA ∷ 0xB ∷ []) (λ (a : ℕ). state_after card (Write a 7)),
      expect 7 0 0 0 0 still ++ ((0 ∷ 7 ∷ 0x11 ∷ replicate 7 0) ++ (still ++ ((0 ∷ 0 ∷ 7 ∷ replicate 7 0) ++ (still
          ++ (expect 0 7 0 0 0 still ++ (expect 0 0 7 0 0 still ++ (expect 0 0 0 1792 0 still ++ (expect 0 0 0 7 0 still
          ++ (expect 0 0 0 0 1792 still ++ expect 0 0 0 0 7 still))))))))),
    )
    -- a byte with its upper bits; every command with cycles
    ∷ (
      over (0x1 ∷ 0x2 ∷ 0x3 ∷ 0x5 ∷ 0x7 ∷ 0x8 ∷ 0x9 ∷ 0xA ∷ 0xB ∷ []) (λ (a : ℕ). state_after card (Write a 0xF6)),
      expect 0x76 0 0 0 0 still ++ ((0 ∷ 6 ∷ 0x11 ∷ replicate 7 0) ++ (still ++ ((0 ∷ 0 ∷ 0xF6 ∷ replicate 7 0) ++ (still
          ++ (expect 0 0xF6 0 0 0 still ++ (expect 0 0 0xF6 0 0 still ++ (expect 0 0 0 0x600 0 still ++ (expect 0 0 0 0xF6 0 still
          ++ (expect 0 0 0 0 0x600 still ++ expect 0 0 0 0 0xF6 still))))))))),
    )
    ∷ (
      joined (λ (c : ℕ). state_after card (Write 0 c)) 0x10 240,
      joined (λ (c : ℕ). expect 0 0 0 0 0 (1 ∷ c ∷ replicate 6 0)) 0x10 240,
    )
    -- 256 cycles and more
    ∷ (state_after stretched (Cycles 255), expect 0 255 0 255 0 (1 ∷ 0x10 ∷ 255 ∷ replicate 5 0))
    ∷ (state_after stretched (Cycles 256) ++ state_after stretched (Cycles 32768), expect 0 255 0 255 0 still ++ expect 0 255 0 255 0 still)
    -- a read clears the flags, refused it does not
    ∷ (state_after flagged (Read 0), expect 0x40 0 0 0 0 still)
    ∷ (state_after flagged (Read 4), expect 0x40 0 0 0 0 (0 ∷ 0 ∷ 0 ∷ 0 ∷ 0 ∷ 0 ∷ 0 ∷ 1 ∷ []))
    -- four cycles of the vector: dots (0,0) (1,0) (2,1) (3,1), next (4,2)
    ∷ (state_after drawing (Cycles 4), expect 3 5 2 4 2 (1 ∷ 0x11 ∷ 4 ∷ 0 ∷ 0 ∷ 0 ∷ 0 ∷ 0 ∷ []))
    ∷ ((card_after drawing (Cycles 4)).memory.picture, 3 ∷ (replicate 63 0 ++ (12 ∷ replicate 16319 0)))
    -- VB's level
    ∷ (state_after card (Blanking true), expect 0 0 0 0 0 (0 ∷ 0 ∷ 0 ∷ 0 ∷ 1 ∷ 0 ∷ 0 ∷ 0 ∷ []))
    ∷ (state_after card (Blanking false), expect 0 0 0 0 0 still)
    -- an edge in the open frame, and one that is refused
    ∷ (state_after aimed (Edge 10 20), 0 ∷ 0 ∷ 0x11 ∷ 0 ∷ 0 ∷ 0 ∷ 0 ∷ 41 ∷ 20 ∷ 0 ∷ still)
    ∷ (state_after aimed (Edge 63 255) ++ state_after aimed (Edge 32 128), 0 ∷ 0 ∷ 0x11 ∷ 0 ∷ 0 ∷ 0 ∷ 0 ∷ 253 ∷ 255 ∷ 0 ∷ still ++ (0 ∷ 0 ∷ 0x11 ∷ 0 ∷ 0 ∷ 0 ∷ 0 ∷ 129 ∷ 128 ∷ 0 ∷ still))
    ∷ (state_after aimed (Edge 64 20), expect 0 0 0 0 0 (0 ∷ 0 ∷ 0 ∷ 2 ∷ 0 ∷ 0 ∷ 0 ∷ 0 ∷ []))
    -- a malformed line changes nothing
    ∷ (state_after drawing Malformed, expect 3 5 2 0 0 (1 ∷ 0x11 ∷ 0 ∷ 0 ∷ 0 ∷ 0 ∷ 0 ∷ 0 ∷ []))
    ∷ (state_after flagged Malformed, expect 0x40 0 0 0 0 (0 ∷ 0 ∷ 0 ∷ 0 ∷ 0 ∷ 0 ∷ 0 ∷ 1 ∷ []))
    ∷ []

-- Lines in a row ------------------------------------------------------------------------------------------------------

-- malformed; R 0; an empty line; W 3 22; R 3; T 3; V 2
unfoldable pub log : List (List ℕ)
log =
    (63 ∷ [])
    ∷ (82 ∷ 9 ∷ 48 ∷ [])
    ∷ []
    ∷ (87 ∷ 9 ∷ 51 ∷ 9 ∷ 50 ∷ 50 ∷ [])
    ∷ (82 ∷ 9 ∷ 51 ∷ [])
    ∷ (84 ∷ 9 ∷ 51 ∷ [])
    ∷ (86 ∷ 9 ∷ 50 ∷ [])
    ∷ []

-- W 3 22
unfoldable pub w322 : List ℕ
w322 = 87 ∷ 9 ∷ 51 ∷ 9 ∷ 50 ∷ 50 ∷ []

-- dot d alone lit of k bytes
unfoldable pub lit : ℕ → ℕ → ℕ → List ℕ
lit before byte behind = replicate before 0 ++ (byte ∷ replicate behind 0)

unfoldable pub rows : List Reading
rows =
    -- lines are counted on from the first, each sees what those before it did
    (
      answers 8 card log,
      69 ∷ 9 ∷ 56 ∷ 9 ∷ 50 ∷ 48 ∷ 10
          ∷ 82 ∷ 9 ∷ 48 ∷ 9 ∷ 48 ∷ 53 ∷ 10
          ∷ 69 ∷ 9 ∷ 49 ∷ 48 ∷ 9 ∷ 50 ∷ 48 ∷ 10
          ∷ 82 ∷ 9 ∷ 51 ∷ 9 ∷ 50 ∷ 50 ∷ 10
          ∷ 84 ∷ 9 ∷ 48 ∷ 10
          ∷ 69 ∷ 9 ∷ 49 ∷ 52 ∷ 9 ∷ 50 ∷ 48 ∷ 10
          ∷ [],
    )
    ∷ (answers 1 card [], [])
    -- lines 254 to 256, and the last two that a log may have: empty lines
    ∷ (
      answers 254 card ([] ∷ [] ∷ [] ∷ []),
      69 ∷ 9 ∷ 50 ∷ 53 ∷ 52 ∷ 9 ∷ 50 ∷ 48 ∷ 10 ∷ 69 ∷ 9 ∷ 50 ∷ 53 ∷ 53 ∷ 9 ∷ 50 ∷ 48 ∷ 10 ∷ 69 ∷ 9 ∷ 50 ∷ 53 ∷ 54 ∷ 9 ∷ 50 ∷ 48 ∷ 10 ∷ [],
    )
    ∷ (
      answers 65535 card ([] ∷ [] ∷ []),
      69 ∷ 9 ∷ 54 ∷ 53 ∷ 53 ∷ 51 ∷ 53 ∷ 9 ∷ 50 ∷ 48 ∷ 10 ∷ 69 ∷ 9 ∷ 54 ∷ 53 ∷ 53 ∷ 51 ∷ 54 ∷ 9 ∷ 50 ∷ 48 ∷ 10 ∷ [],
    )
    -- W 3 22 as the only line, as the first of 301, and before R 3
    ∷ (state_row (shown card (w322 ∷ [])).state, 0 ∷ 0 ∷ 0x22 ∷ 0 ∷ 0 ∷ 0 ∷ 0 ∷ 0 ∷ 0 ∷ 0 ∷ still)
    ∷ (state_row (shown card (w322 ∷ replicate 300 [])).state, 0 ∷ 0 ∷ 0x22 ∷ 0 ∷ 0 ∷ 0 ∷ 0 ∷ 0 ∷ 0 ∷ 0 ∷ still)
    ∷ (answers 1 card (w322 ∷ (82 ∷ 9 ∷ 51 ∷ []) ∷ []), 82 ∷ 9 ∷ 51 ∷ 9 ∷ 50 ∷ 50 ∷ 10 ∷ [])
    ∷ (state_row (shown card log).state, 0 ∷ 0 ∷ 0x22 ∷ 0 ∷ 0 ∷ 0 ∷ 0 ∷ 0 ∷ 0 ∷ 0 ∷ still)
    ∷ (state_row (shown flagged []).state, expect 0x40 0 0 0 0 (0 ∷ 0 ∷ 0 ∷ 0 ∷ 0 ∷ 0 ∷ 0 ∷ 1 ∷ []))
    -- the dots from d on, k of them: each bit of a byte; none before d, none behind
    ∷ (joined (λ (i : ℕ). dot_lines ((2 ^ i) ∷ []) 0 8) 0 8, joined (λ (i : ℕ). 80 ∷ 9 ∷ (48 + i) ∷ 9 ∷ 48 ∷ 10 ∷ []) 0 8)
    ∷ (
      dot_lines (0x81 ∷ 0 ∷ 2 ∷ []) 0 24,
      80 ∷ 9 ∷ 48 ∷ 9 ∷ 48 ∷ 10 ∷ 80 ∷ 9 ∷ 55 ∷ 9 ∷ 48 ∷ 10 ∷ 80 ∷ 9 ∷ 49 ∷ 55 ∷ 9 ∷ 48 ∷ 10 ∷ [],
    )
    ∷ (dot_lines (0x81 ∷ 0 ∷ 2 ∷ []) 7 10, 80 ∷ 9 ∷ 55 ∷ 9 ∷ 48 ∷ 10 ∷ [])
    ∷ (dot_lines (0x81 ∷ 0 ∷ 2 ∷ []) 8 9 ++ dot_lines (0x81 ∷ []) 0 0, [])
    -- 512 dots a line, by y, then x: (1,0), (511,0), (0,1), and the last, (511,255)
    ∷ (
      dot_lines (2 ∷ (replicate 62 0 ++ (0x80 ∷ 1 ∷ []))) 0 520,
      80 ∷ 9 ∷ 49 ∷ 9 ∷ 48 ∷ 10 ∷ 80 ∷ 9 ∷ 53 ∷ 49 ∷ 49 ∷ 9 ∷ 48 ∷ 10 ∷ 80 ∷ 9 ∷ 48 ∷ 9 ∷ 49 ∷ 10 ∷ [],
    )
    -- (300, 200), and dots all over: (32k + 5, 16k + 9)
    ∷ (dot_lines (lit 12837 0x10 0) 102696 8, 80 ∷ 9 ∷ 51 ∷ 48 ∷ 48 ∷ 9 ∷ 50 ∷ 48 ∷ 48 ∷ 10 ∷ [])
    ∷ (
      joined (λ (k : ℕ). dot_lines (replicate 16384 255) (512 * (16 * k + 9) + 32 * k + 5) 1) 0 16,
      joined (λ (k : ℕ). line_p (32 * k + 5) (16 * k + 9)) 0 16,
    )
    ∷ (dot_lines (lit 16383 0x80 0) 131064 8, 80 ∷ 9 ∷ 53 ∷ 49 ∷ 49 ∷ 9 ∷ 50 ∷ 53 ∷ 53 ∷ 10 ∷ [])
    -- input past 65,536 bytes: only E, 0, 21
    ∷ (panel (replicate 65537 48), 69 ∷ 9 ∷ 48 ∷ 9 ∷ 50 ∷ 49 ∷ 10 ∷ [])
    ∷ (panel (replicate 65538 10) ++ panel (replicate 131073 10), joined (λ (k : ℕ). 69 ∷ 9 ∷ 48 ∷ 9 ∷ 50 ∷ 49 ∷ 10 ∷ []) 0 2)
    ∷ []
