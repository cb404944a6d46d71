-- The items of a list: every address and every code.
-- Assumes nothing.
use Rattle.std.specs.Prelude.{ℕ, ◌+◌, ◌*◌, false, List, [], ◌∷◌, ◌++◌, replicate}
use Rattle.basis.specs.Reading.{Reading, each, joined, told}
use Rattle.picture.specs.Dot.{has}
use Rattle.parts.specs.declared.format.Format.TheVariants.{Ef9366}
use Rattle.parts.specs.declared.command.Kind.TheVariants.{NoCycle, OneCycle, Vector, Character, Block}
use Rattle.rules.specs.Sequence.{Idle, Off}
use Rattle.rules.specs.State.{State, regs, flags, state}
use Rattle.rules.specs.Card.{Event, W, R, T, VB, LP}
use Rattle.rules.specs.Tables.Computed.{computed as of-rules}
use Rattle.lists.specs.Item.{settings, resets, is_drawn, is_listed, Item, Set, Command, address, value}
use Rattle.lists.specs.Erase.{back_to, eraser_by_write, eraser_by_command}

-- a write as its address and value
unfoldable pub item_row : Item → List ℕ
item_row it = address it ∷ value it ∷ []

unfoldable pub event_row : Event → List ℕ
event_row (W a v) = 0 ∷ a ∷ v ∷ []
event_row (R a) = 1 ∷ a ∷ []
event_row (T n) = 2 ∷ n ∷ []
event_row (VB level) = 3 ∷ []
event_row (LP h v) = 4 ∷ []

unfoldable pub event_rows : List Event → List ℕ
event_rows [] = []
event_rows (e ∷ es) = event_row e ++ event_rows es

-- a state whose registers have each their own value, CTRL1 being c
unfoldable pub own : ℕ → State
own c = state Ef9366 (regs c 0x0B 0x23 0x45 0x67 0xABC 0x9DE 0xF1 0x8F) Idle Off false (flags false false false)

unfoldable pub items : List Reading
unfolding of-rules
items =
    -- writes to CTRL2, CSIZE, the deltas, X and Y
    (settings, 2 ∷ 3 ∷ 5 ∷ 7 ∷ 8 ∷ 9 ∷ 10 ∷ 11 ∷ [])
    ∷ (
      each (λ (a : ℕ). told (has a settings)) 0 256,
      0 ∷ 0 ∷ 1 ∷ 1 ∷ 0 ∷ 1 ∷ 0 ∷ 1 ∷ 1 ∷ 1 ∷ 1 ∷ 1 ∷ replicate 244 0,
    )
    -- the coordinate resets 05, 0D and 0E; vectors and characters
    ∷ (resets, 5 ∷ 13 ∷ 14 ∷ [])
    ∷ (
      told (is_drawn Vector) ∷ told (is_drawn Character) ∷ told (is_drawn Block) ∷ told (is_drawn OneCycle) ∷ told (is_drawn NoCycle) ∷ [],
      1 ∷ 1 ∷ 1 ∷ 0 ∷ 0 ∷ [],
    )
    -- every code: 05, 0A, 0B, 0D, 0E and 10 to FF
    ∷ (
      each (λ (c : ℕ). told (is_listed c)) 0 256,
      0 ∷ 0 ∷ 0 ∷ 0 ∷ 0 ∷ 1 ∷ 0 ∷ 0 ∷ 0 ∷ 0 ∷ 1 ∷ 1 ∷ 0 ∷ 1 ∷ 1 ∷ 0 ∷ replicate 240 1,
    )
    -- a setting is written to its own address, a command to 0
    ∷ (
      item_row (Set 0x2 0x0F tt tt) ++ (item_row (Set 0xB 255 tt tt) ++ (item_row (Command 0x05 tt tt) ++ item_row (Command 0xFF tt tt))),
      2 ∷ 15 ∷ 11 ∷ 255 ∷ 0 ∷ 5 ∷ 0 ∷ 255 ∷ [],
    )
    -- CTRL2, CSIZE, DELTAX, DELTAY, X and Y written as they are
    ∷ (
      event_rows (back_to (own 3)),
      0 ∷ 2 ∷ 0x0B ∷ 0 ∷ 3 ∷ 0x23 ∷ 0 ∷ 5 ∷ 0x45 ∷ 0 ∷ 7 ∷ 0x67 ∷ 0 ∷ 8 ∷ 0x0A ∷ 0 ∷ 9 ∷ 0xBC ∷ 0 ∷ 10 ∷ 0x09 ∷ 0 ∷ 11 ∷ 0xDE ∷ [],
    )
    -- bit 1 of CTRL1 made low and the others left: every CTRL1 of seven bits; or command 01
    ∷ (
      joined (λ (c : ℕ). event_rows (eraser_by_write (own c))) 0 128,
      joined (λ (k : ℕ). 0 ∷ 1 ∷ (4 * k) ∷ 0 ∷ 1 ∷ (4 * k + 1) ∷ 0 ∷ 1 ∷ (4 * k) ∷ 0 ∷ 1 ∷ (4 * k + 1) ∷ []) 0 32,
    )
    ∷ (event_rows eraser_by_command, 0 ∷ 0 ∷ 1 ∷ [])
    ∷ []
