-- Playing a list by the public calls: each item is a write; its command is then run to its end, whatever else the host calls.
-- Assumes nothing.
use Rattle.std.specs.Prelude.{◌≡◌, ℕ, Bool, true, false, ◌&&◌, List, [], ◌∷◌, ◌++◌, length}
use Rattle.parts.specs.Format.{bytes}
use Rattle.rules.specs.Sequence.{Idle}
use Rattle.rules.specs.State.{State}
use Rattle.rules.specs.Figure.{Tables}
use Rattle.rules.specs.Cycles.{left, dots, after}
use Rattle.rules.specs.Refusals.{bad}
use Rattle.rules.specs.Calls.{written}
use Rattle.rules.specs.Card.{Card, Event, W, R, T, VB, LP, next}
use Rattle.lists.specs.Item.{Item, address, value}

-- an idle processor in a state that no call refuses with 1, and memories of the lengths that document 01 asks
pub record Fit (c : Card) : Type 0 where
  pub good : bad c.state ≡ false
  pub idle : c.state.work ≡ Idle
  pub picture : length c.memory.picture ≡ bytes c.state.format
  pub table : length c.tables.characters ≡ 480

-- the card once an item is written; refused, it is the card as handed in
unfoldable pub wrote : Card → Item → Card
wrote c it = next c (W (address it) (value it))

-- a call that writes no register: a grant, a read, a VB level, an LPCK edge
abbrev pub writes_none : Event → Bool
writes_none (W a v) = false
writes_none (R a) = true
writes_none (T n) = true
writes_none (VB level) = true
writes_none (LP h v) = true

-- a list played on card c ends in card d. The next item is written when the processor is idle, so each command is run to its
-- end; the list is over when the last one is. In between comes whatever writes no register: grants of any sizes, reads, VB
-- levels, LPCK edges, as many as one likes
pub data Plays : Card → List Item → Card → Type 0 where
  end : {c : Card} → c.state.work ≡ Idle → Plays c [] c
  call : {c d : Card} {its : List Item} (e : Event) → writes_none e ≡ true → Plays (next c e) its d → Plays c its d
  item : {c d : Card} (it : Item) (its : List Item) → c.state.work ≡ Idle → Plays (wrote c it) its d → Plays c (it ∷ its) d

-- nothing but grants comes in between
abbrev pub grants : Event → Bool
grants (W a v) = false
grants (R a) = false
grants (T n) = true
grants (VB level) = false
grants (LP h v) = false

abbrev pub alone : {c d : Card} {its : List Item} → Plays c its d → Bool
alone (end i) = true
alone (call e n rest) = grants e && alone rest
alone (item it its i rest) = alone rest

-- the state once an item is written, and once its command is run to its end; the dots that demand 2 has it write
unfoldable pub taking : State → Item → State
taking s it = (written s (address it) (value it)).state

unfoldable pub done : State → Item → State
done s it = after (taking s it) (left (taking s it))

unfoldable pub item_dots : State → Tables → Item → List ℕ
item_dots s t it = dots (taking s it) t (left (taking s it))

-- the same of a list
unfoldable pub done_all : State → List Item → State
done_all s [] = s
done_all s (it ∷ its) = done_all (done s it) its

unfoldable pub list_dots : State → Tables → List Item → List ℕ
list_dots s t [] = []
list_dots s t (it ∷ its) = item_dots s t it ++ list_dots (done s it) t its
