-- A line as the code reads it: a record, or none.
-- Assumes nothing.
use Rattle.std.specs.Prelude.{ℕ, ◌<◌, cond, ◌&&◌, List, [], Option, Some, None, leb}
use Rattle.text.specs.Numbers.{is_number, number_from}
use Rattle.rules.specs.Card.{Event, W, R, T, VB, LP}
use Rattle.panel.specs.declared.parse.Record.{Record as Parsed}
use Rattle.panel.specs.declared.parse.Record.TheVariants.{Write as write, Read as read, Cycles as cycles, Blanking as blanking, Edge as edge}
use Rattle.panel.specs.Record.{Record, Write, Read, Cycles, Blanking, Edge, Malformed}
use Rattle.panel.specs.Answer.{line_r, line_t}

-- a field as a number that is at most so great, where it is one
unfoldable pub number_to : ℕ → ℕ → ℕ → List ℕ → Option ℕ
number_to top base most f = cond (is_number base most f && leb (number_from base 0 f) top) (Some (number_from base 0 f)) None

-- what a line means; none is a malformed line
abbrev pub meant : Option Parsed → Record
meant (Some (write address value)) = Write address value
meant (Some (read address)) = Read address
meant (Some (cycles n)) = Cycles n
meant (Some (blanking level)) = Blanking level
meant (Some (edge h v)) = Edge h v
meant None = Malformed

-- the event that a record asks for
unfoldable pub event_of : Parsed → Event
event_of (write address value) = W address value
event_of (read address) = R address
event_of (cycles n) = T n
event_of (blanking level) = VB level
event_of (edge h v) = LP h v

-- what an accepted call answers, by its value
unfoldable pub text_of : Parsed → ℕ → List ℕ
text_of (write address value) v = []
text_of (read address) v = line_r address v
text_of (cycles n) v = line_t v
text_of (blanking level) v = []
text_of (edge h w) v = []

-- an address that is read is one hex digit
abbrev pub HasAddress : Parsed → Type 0
HasAddress (write address value) = Unit {0}
HasAddress (read address) = address < 16
HasAddress (cycles n) = Unit {0}
HasAddress (blanking level) = Unit {0}
HasAddress (edge h v) = Unit {0}
