-- A card: the processor with the memories that its host lends. Events reach it as five kinds of call.
-- Assumes nothing.
use Rattle.std.specs.Prelude.{ℕ, Bool, List, [], ◌∷◌}
use Rattle.rules.specs.State.{State}
use Rattle.rules.specs.Figure.{Tables}
use Rattle.rules.specs.Calls.{Answer, Memory, Outcome, written, read_out, granted, blanked, struck}

pub record Card : Type 0 where
  pub state : State
  pub memory : Memory
  pub tables : Tables

-- write a register, read a register, grant write cycles, set the VB level, report an LPCK edge at a segment and a line
pub data Event : Type 0 where
  W : (address value : ℕ) → Event
  R : (address : ℕ) → Event
  T : (cycles : ℕ) → Event
  VB : (level : Bool) → Event
  LP : (segment line : ℕ) → Event

-- a call that is lent no memory leaves it as it is
abbrev pub leaving : Card → Answer → Outcome
leaving c r = record { answer = r; memory = c.memory }

-- what an event does
unfoldable pub outcome_of : Card → Event → Outcome
outcome_of c (W a v) = leaving c (written c.state a v)
outcome_of c (R a) = leaving c (read_out c.state a)
outcome_of c (T n) = granted c.state n c.memory c.tables
outcome_of c (VB level) = blanked c.state level c.memory
outcome_of c (LP h v) = leaving c (struck c.state h v)

-- the card after it, and after some events
unfoldable pub next : Card → Event → Card
next c e = record { state = (outcome_of c e).answer.state; memory = (outcome_of c e).memory; tables = c.tables }

unfoldable pub played : Card → List Event → Card
played c [] = c
played c (e ∷ es) = played (next c e) es
