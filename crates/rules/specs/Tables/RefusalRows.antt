-- Every cause of refusal, at its edge: each number of each call, and what a refusal leaves.
-- Assumes nothing.
use Rattle.std.specs.Prelude.{ℕ, ◌+◌, ◌-◌, max, true, false, List, [], ◌∷◌, ◌++◌, get_or, replicate}
use Rattle.basis.specs.Reading.{Reading, each, joined, told}
use Rattle.rules.specs.State.{State}
use Rattle.rules.specs.Figure.{tables}
use Rattle.rules.specs.Refusals.{bad}
use Rattle.rules.specs.Calls.{memory, Outcome, Located, answer, outcome, written, read_out, granted, blanked, struck, located}
use Rattle.rules.specs.Card.{Card, Event, W, R, T, VB, LP, next}
use Rattle.rules.specs.Tables.Rows.{but, stated, shown, answered, rich}

-- whether the state of a row is refused with 1
unfoldable pub flaw : List ℕ → ℕ
flaw r = told (bad (stated r))

-- the numbers that the six calls give a state, lent nothing and asked for address 4, segment 64 and CMD 41: 1 goes before all
unfoldable pub six : State → List ℕ
six s =
    (written s 4 0).number
    ∷ (read_out s 4).number
    ∷ (granted s 0 (memory []) (tables [])).answer.number
    ∷ (blanked s false (memory [])).answer.number
    ∷ (struck s 64 0).number
    ∷ (located s).number
    ∷ []

unfoldable pub refused_six : List ℕ
refused_six = replicate 6 1

-- a row refused with 1 for one reason alone
unfoldable pub flaws : List (List ℕ)
flaws =
    but 6 4096 rich
    ∷ but 7 4096 rich
    ∷ but 1 128 rich
    ∷ but 2 16 rich
    ∷ but 8 2 rich
    ∷ but 10 1 (but 11 0x08 rich)
    ∷ but 10 1 (but 11 0x0F (but 12 1 rich))
    ∷ but 2 0x04 (but 10 1 (but 11 0x20 (but 12 65535 rich)))
    ∷ but 10 2 (but 14 1 (but 16 1 rich))
    ∷ but 15 2 (but 16 1 rich)
    ∷ []

unfoldable pub limits : List Reading
limits =
    (each (λ k. flaw (but 6 (4094 + k) rich)) 0 4, 0 ∷ 0 ∷ 1 ∷ 1 ∷ [])
    ∷ (each (λ k. flaw (but 7 (4094 + k) rich)) 0 4, 0 ∷ 0 ∷ 1 ∷ 1 ∷ [])
    ∷ (each (λ k. flaw (but 1 k rich)) 0 256, replicate 128 0 ++ replicate 128 1)
    ∷ (each (λ k. flaw (but 2 k rich)) 0 256, replicate 16 0 ++ replicate 240 1)
    ∷ (each (λ k. flaw (but 8 k rich)) 0 256, joined (λ i. 0 ∷ 0 ∷ 1 ∷ 1 ∷ []) 0 64)
    -- CSIZE, the deltas and YLP may be anything
    ∷ (joined (λ k. flaw (but 3 k rich) ∷ flaw (but 4 k rich) ∷ flaw (but 5 k rich) ∷ flaw (but 9 k rich) ∷ []) 0 256, replicate 1024 0)
    ∷ (joined (λ k. six (stated (get_or flaws k []))) 0 10, joined (λ k. refused_six) 0 10)
    ∷ (six (stated rich), 4 ∷ 4 ∷ 2 ∷ 2 ∷ 8 ∷ 0 ∷ [])
    ∷ []

-- a running command of code c that has used p cycles, DELTAX 5, DELTAY 9, CSIZE 23, under a CTRL2
unfoldable pub doing : ℕ → ℕ → ℕ → List ℕ
doing c2 c p = but 2 c2 (but 4 5 (but 5 9 (but 10 1 (but 11 c (but 12 p rich)))))

-- the cycles of each: none for 00 to 09, 0C, 0D, 0E
unfoldable pub lengths : List ℕ
lengths =
    replicate 10 0 ++ (288 ∷ 96 ∷ 0 ∷ 0 ∷ 0 ∷ 1 ∷ 6 ∷ 10 ∷ 10 ∷ 10 ∷ 10 ∷ 10 ∷ 6 ∷ 10 ∷ (replicate 8 10 ++ (replicate 96 288
    ++ joined (λ n. joined (λ m. (n + 1) ∷ (max n m + 1) ∷ (m + 1) ∷ (max n m + 1) ∷ (m + 1) ∷ (max n m + 1) ∷ (n + 1) ∷ (max n m + 1) ∷ []) 0 4) 0 4)))

unfoldable pub length_of : ℕ → ℕ
length_of c = get_or lengths c 0

-- a progress below the count is good, the count itself is not; a code without cycles never is; tilted or not
unfoldable pub progress : List Reading
progress = (
  each (λ c. flaw (doing 0 c (length_of c - 1))) 0 256,
  replicate 10 1 ++ (0 ∷ 0 ∷ 1 ∷ 1 ∷ 1 ∷ replicate 241 0),
)
    ∷ (each (λ c. flaw (doing 0 c (length_of c))) 0 256, replicate 256 1)
    ∷ (each (λ c. flaw (doing 0xB c 0)) 0 256, replicate 10 1 ++ (0 ∷ 0 ∷ 1 ∷ 1 ∷ 1 ∷ replicate 241 0))
    ∷ (each (λ c. flaw (doing 0x4 c 0)) 0 256, replicate 10 1 ++ (0 ∷ 0 ∷ 1 ∷ 1 ∷ 1 ∷ replicate 241 0))
    ∷ (each (λ c. flaw (doing 0x4 c (length_of c))) 0 256, replicate 256 1)
    -- past the count as at it; tilted and turned, at its last cycle, as untilted
    ∷ (each (λ c. flaw (doing 0 c (length_of c + 1))) 0 256 ++ each (λ c. flaw (doing 0 c 65535)) 0 256, replicate 512 1)
    ∷ (each (λ c. flaw (doing 0xC c (length_of c - 1))) 0 256, replicate 10 1 ++ (0 ∷ 0 ∷ 1 ∷ 1 ∷ 1 ∷ replicate 241 0))
    ∷ []

-- pictures and tables one byte short and one too long, in each format; idle, with no cycle asked, or not
unfoldable pub lent : ℕ → ℕ → ℕ → ℕ → List ℕ
lent format work picture table =
    let s = stated (but 0 format (but 10 work (but 11 0x80 rich))) in
    (granted s 0 (memory (replicate picture 0)) (tables (replicate table 0))).answer.number
    ∷ (blanked s false (memory (replicate picture 0))).answer.number
    ∷ []

unfoldable pub memories : List Reading
memories = (
  lent 0 0 16383 480 ++ (lent 0 0 16384 480 ++ (lent 0 0 16385 480 ++ (lent 1 1 32767 480 ++ (lent 1 1 32768 480 ++ (lent 1 0 32769 480
      ++ (lent 2 0 8191 480 ++ (lent 2 1 8192 480 ++ lent 2 1 8193 480))))))),
  2 ∷ 2 ∷ 0 ∷ 0 ∷ 2 ∷ 2 ∷ 2 ∷ 2 ∷ 0 ∷ 0 ∷ 2 ∷ 2 ∷ 2 ∷ 2 ∷ 0 ∷ 0 ∷ 2 ∷ 2 ∷ [],
)
    ∷ (
      lent 0 0 16384 479 ++ (lent 0 1 16384 481 ++ (lent 2 1 8192 0 ++ lent 2 0 8191 479)),
      3 ∷ 0 ∷ 3 ∷ 0 ∷ 3 ∷ 0 ∷ 2 ∷ 2 ∷ [],
    )
    -- twice a table; another format's picture
    ∷ (
      lent 0 0 16384 960 ++ (lent 0 0 32768 480 ++ (lent 2 1 32768 480 ++ (lent 1 0 16384 480 ++ lent 2 0 16384 480))),
      3 ∷ 0 ∷ replicate 8 2,
    )
    ∷ []

-- a refusal gives value 0 and leaves state and memory as handed in; else value, next state and changed memory are given
unfoldable pub other : List ℕ
other = but 6 1 (but 19 1 rich)

unfoldable pub kept : Outcome → List ℕ
kept o = answered o.answer ++ o.memory.picture

unfoldable pub answer_rows : List Reading
answer_rows =
    (answered (answer 0 7 (stated other) (stated rich)), 0 ∷ 7 ∷ other)
    ∷ (answered (answer 3 7 (stated other) (stated rich)), 3 ∷ 0 ∷ rich)
    ∷ (kept (outcome 0 7 (stated other) (memory (1 ∷ [])) (stated rich) (memory (2 ∷ []))), 0 ∷ 7 ∷ other ++ (1 ∷ []))
    ∷ (kept (outcome 2 7 (stated other) (memory (1 ∷ [])) (stated rich) (memory (2 ∷ []))), 2 ∷ 0 ∷ rich ++ (2 ∷ []))
    -- by every number but 0
    ∷ (
      joined (λ n. kept (outcome n 7 (stated other) (memory (1 ∷ [])) (stated rich) (memory (2 ∷ [])))) 1 30,
      joined (λ n. n ∷ 0 ∷ rich ++ (2 ∷ [])) 1 30,
    )
    ∷ (kept (granted (stated rich) 5 (memory (9 ∷ [])) (tables [])), 2 ∷ 0 ∷ rich ++ (9 ∷ []))
    ∷ (kept (blanked (stated rich) true (memory (9 ∷ []))), 2 ∷ 0 ∷ rich ++ (9 ∷ []))
    -- a VB call that is accepted gives value 0 too, at a rise and with the present level
    ∷ (
      answered (blanked (stated (but 0 2 rich)) true (memory (replicate 8192 0))).answer
          ++ answered (blanked (stated (but 0 2 rich)) false (memory (replicate 8192 0))).answer,
      0 ∷ 0 ∷ but 0 2 (but 16 1 (but 18 1 rich)) ++ (0 ∷ 0 ∷ but 0 2 rich),
    )
    ∷ []

-- the outputs of X 9AB and Y CDE in each format: DAD while CK is low and high, MSL; refused, all are 0
unfoldable pub outputs : Located → List ℕ
outputs l = l.number ∷ l.address.low ∷ l.address.high ∷ l.address.msl ∷ []

unfoldable pub output_rows : List Reading
output_rows =
    (outputs (located (stated rich)), 0 ∷ 43 ∷ 123 ∷ 11 ∷ [])
    ∷ (outputs (located (stated (but 0 1 rich))), 0 ∷ 107 ∷ 54 ∷ 11 ∷ [])
    ∷ (outputs (located (stated (but 0 2 rich))), 0 ∷ 21 ∷ 123 ∷ 7 ∷ [])
    ∷ (outputs (located (stated (but 6 4096 rich))), 1 ∷ 0 ∷ 0 ∷ 0 ∷ [])
    ∷ []

-- an event leads to its call's state and memory; the tables stay, and memory that a call is not lent
unfoldable pub carded : List ℕ → Card
carded r = record { state = stated r; memory = memory (5 ∷ 6 ∷ []); tables = tables (7 ∷ 8 ∷ 9 ∷ []) }

unfoldable pub after_event : Event → List ℕ
after_event e =
    let c = next (carded (but 15 2 rich)) e in
    shown c.state ++ (c.memory.picture ++ c.tables.characters)

unfoldable pub lent_row : List ℕ → List ℕ
lent_row r = r ++ (5 ∷ 6 ∷ 7 ∷ 8 ∷ 9 ∷ [])

unfoldable pub events : List Reading
events =
    (after_event (W 0x5 0xDA), lent_row (but 4 0xDA (but 15 2 rich)))
    ∷ (after_event (R 0xC), lent_row (but 8 0xF4 (but 15 2 rich)))
    ∷ (after_event (T 5), lent_row (but 15 2 rich))
    ∷ (after_event (VB true), lent_row (but 15 2 rich))
    ∷ (after_event (LP 10 20), lent_row (but 8 41 (but 9 20 (but 17 1 rich))))
    ∷ []
