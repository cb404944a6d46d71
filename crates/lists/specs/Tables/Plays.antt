-- A list with every kind of item, played: the dots it writes and where it leaves the registers.
-- Assumes nothing.
use Rattle.std.specs.Prelude.{ℕ, ◌+◌, ◌*◌, false, List, [], ◌∷◌, ◌++◌, replicate}
use Rattle.basis.specs.Reading.{Reading, each, joined, told}
use Rattle.parts.specs.declared.format.Format.TheVariants.{Ef9366}
use Rattle.rules.specs.Sequence.{Work, Idle, Steps, Clear, Off}
use Rattle.rules.specs.State.{State, regs, flags, state}
use Rattle.rules.specs.Figure.{Tables, tables}
use Rattle.rules.specs.Tables.Rows.{frames_told}
use Rattle.rules.specs.Tables.Computed.{computed as of-rules}
use Rattle.lists.specs.Item.{Item, Set, Command}
use Rattle.lists.specs.Play.{taking, done, item_dots, done_all, list_dots}

-- EF9366, CSIZE 11, CTRL1 and CTRL2 as given, at (x, y), with what runs
unfoldable pub at : ℕ → ℕ → ℕ → ℕ → Work → State
at c1 c2 x y w = state Ef9366 (regs c1 c2 0x11 0 0 x y 0 0) w Off false (flags false false false)

-- a table whose only dot is the bottom row of column 0 of A, code 41
unfoldable pub lettered : Tables
lettered = tables (replicate 165 0 ++ (0x01 ∷ replicate 314 0))

-- a state as CTRL1, CTRL2, CSIZE, DELTAX, DELTAY, X, Y, what runs and the ready flag
unfoldable pub work_row : Work → List ℕ
work_row Idle = 0 ∷ 0 ∷ 0 ∷ []
work_row (Steps c p) = 1 ∷ c ∷ p ∷ []
work_row (Clear f o) = 2 ∷ told f ∷ frames_told o ∷ []

unfoldable pub state_row : State → List ℕ
state_row s =
    s.regs.ctrl1 ∷ s.regs.ctrl2 ∷ s.regs.csize ∷ s.regs.deltax ∷ s.regs.deltay ∷ s.regs.x ∷ s.regs.y
    ∷ (work_row s.work ++ (told s.flags.ready ∷ []))

-- the list
unfoldable pub sample : List Item
unfolding of-rules
sample =
    Set 0x5 5 tt tt
    ∷ Set 0x7 2 tt tt
    ∷ Command 0x11 tt tt
    ∷ Command 0x0D tt tt
    ∷ Set 0xB 10 tt tt
    ∷ Command 0x0B tt tt
    ∷ Set 0x3 0x21 tt tt
    ∷ Command 0x41 tt tt
    ∷ Set 0x2 1 tt tt
    ∷ Command 0xE9 tt tt
    ∷ Command 0x0E tt tt
    ∷ Command 0x05 tt tt
    ∷ Set 0x3 0x11 tt tt
    ∷ Command 0x0A tt tt
    ∷ Set 0x8 1 tt tt
    ∷ Set 0x9 0x20 tt tt
    ∷ Set 0xA 1 tt tt
    ∷ Set 0xB 3 tt tt
    ∷ Command 0x10 tt tt
    ∷ []

-- X and Y after each item
unfoldable pub walk : State → List Item → List ℕ
walk s [] = []
walk s (it ∷ its) = (done s it).regs.x ∷ (done s it).regs.y ∷ walk (done s it) its

unfoldable pub plays : List Reading
unfolding of-rules
plays = (
  walk (at 0x43 0 0 0 Idle) sample,
  0 ∷ 0 ∷ 0 ∷ 0 ∷ 5 ∷ 2 ∷ 0 ∷ 2 ∷ 0 ∷ 10 ∷ 4 ∷ 10 ∷ 4 ∷ 10 ∷ 16 ∷ 10 ∷ 16 ∷ 10 ∷ 19 ∷ 11 ∷ 19 ∷ 0 ∷ 0 ∷ 0 ∷ 0 ∷ 0 ∷ 6 ∷ 0
      ∷ 262 ∷ 0 ∷ 288 ∷ 0 ∷ 288 ∷ 256 ∷ 288 ∷ 259 ∷ 293 ∷ 259 ∷ [],
)
    ∷ (state_row (done_all (at 0x43 0 0 0 Idle) sample), 0x43 ∷ 1 ∷ 0x11 ∷ 5 ∷ 2 ∷ 293 ∷ 259 ∷ 0 ∷ 0 ∷ 0 ∷ 1 ∷ [])
    ∷ (state_row (done_all (at 3 0 7 8 Idle) []), 3 ∷ 0 ∷ 0x11 ∷ 0 ∷ 0 ∷ 7 ∷ 8 ∷ 0 ∷ 0 ∷ 0 ∷ 0 ∷ [])
    -- the dots, by number, in the order of the cycles: the vector; the block; the letter; two dots of line type 1; the cell 0A
    ∷ (
      list_dots (at 3 0 0 0 Idle) lettered sample,
      0 ∷ 1 ∷ 514 ∷ 515 ∷ 1028 ∷ 1029
          ∷ (joined (λ (u : ℕ). each (λ (v : ℕ). 512 * v + u) 10 4) 0 4
          ++ (5124 ∷ 5125
          ∷ 5136 ∷ 5137
          ∷ joined (λ (u : ℕ). each (λ (v : ℕ). 512 * v + u) 0 8) 0 5)),
    )
    -- pen up: none; the eraser: the same
    ∷ (list_dots (at 2 0 0 0 Idle) lettered sample, [])
    ∷ (list_dots (at 1 0 0 0 Idle) lettered (Command 0xE9 tt tt ∷ []) ++ list_dots (at 3 0 0 0 Idle) lettered [], 0 ∷ 1 ∷ 514 ∷ 515 ∷ [])
    -- an item once written, and once run to its end; its dots
    ∷ (state_row (taking (at 3 0 7 8 Idle) (Command 0xE9 tt tt)), 3 ∷ 0 ∷ 0x11 ∷ 0 ∷ 0 ∷ 7 ∷ 8 ∷ 1 ∷ 0xE9 ∷ 0 ∷ 0 ∷ [])
    ∷ (state_row (done (at 0x43 0 7 8 Idle) (Command 0xE9 tt tt)), 0x43 ∷ 0 ∷ 0x11 ∷ 0 ∷ 0 ∷ 10 ∷ 9 ∷ 0 ∷ 0 ∷ 0 ∷ 1 ∷ [])
    ∷ (state_row (taking (at 3 0 7 8 Idle) (Set 0x7 9 tt tt)), 3 ∷ 0 ∷ 0x11 ∷ 0 ∷ 9 ∷ 7 ∷ 8 ∷ 0 ∷ 0 ∷ 0 ∷ 0 ∷ [])
    ∷ (item_dots (at 3 0 7 0 Idle) lettered (Command 0xE9 tt tt) ++ item_dots (at 3 0 7 0 Idle) lettered (Set 0x7 9 tt tt), 7 ∷ 8 ∷ 521 ∷ 522 ∷ [])
    -- with tilt high: a letter, its only dot that of the first cycle; 0B, four by four, tilted and tilted upwards
    ∷ (
      state_row (taking (at 3 4 7 8 Idle) (Command 0x41 tt tt)) ++ (state_row (done (at 3 4 7 8 Idle) (Command 0x41 tt tt)) ++ item_dots (at 3 4 7 8 Idle) lettered (Command 0x41 tt tt)),
      3 ∷ 4 ∷ 0x11 ∷ 0 ∷ 0 ∷ 7 ∷ 8 ∷ 1 ∷ 0x41 ∷ 0 ∷ 0 ∷ 3 ∷ 4 ∷ 0x11 ∷ 0 ∷ 0 ∷ 13 ∷ 8 ∷ 0 ∷ 0 ∷ 0 ∷ 0 ∷ 4103 ∷ [],
    )
    ∷ (item_dots (at 3 4 7 0 Idle) lettered (Command 0x0B tt tt), joined (λ (u : ℕ). each (λ (v : ℕ). 513 * v + u) 0 4) 7 4)
    ∷ (item_dots (at 3 0xC 7 0 Idle) lettered (Command 0x0B tt tt), joined (λ (u : ℕ). each (λ (v : ℕ). 511 * v + 512 * u + 7) 0 4) 0 4)
    -- refused, it leaves the state: any item while a command runs, whose own cycles are then left
    ∷ (
      state_row (taking (at 3 0 2 1 (Steps 0xE9 2)) (Set 0x7 9 tt tt)) ++ item_dots (at 3 0 2 1 (Steps 0xE9 2)) lettered (Set 0x7 9 tt tt),
      3 ∷ 0 ∷ 0x11 ∷ 0 ∷ 0 ∷ 2 ∷ 1 ∷ 1 ∷ 0xE9 ∷ 2 ∷ 0 ∷ 514 ∷ 515 ∷ [],
    )
    ∷ []
