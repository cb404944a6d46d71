-- The calls: refusal number, value, state and lent memory for every input.
-- Assumes nothing.
use Rattle.std.specs.Prelude.{ℕ, Bool, cond, List, eqb}
use Rattle.picture.specs.Dot.{paint}
use Rattle.parts.specs.declared.address.Address.{Address}
use Rattle.parts.specs.Address.{address_of}
use Rattle.rules.specs.State.{State}
use Rattle.rules.specs.Registers.{register_at, after_read}
use Rattle.rules.specs.Figure.{Tables}
use Rattle.rules.specs.Cycles.{lights, used, dots, after}
use Rattle.rules.specs.Commands.{after_write}
use Rattle.rules.specs.Blanking.{after_vb, picture_vb, after_edge}
use Rattle.rules.specs.Refusals.{write_number, read_number, grant_number, vb_number, edge_number, address_number}

-- what a call gives back: the refusal number or 0, the value, and the next state
pub record Answer : Type 0 where
  pub number : ℕ
  pub value : ℕ
  pub state : State

-- a refusal gives value 0 and the state as handed in
unfoldable pub answer : ℕ → ℕ → State → State → Answer
answer number value next s =
    record { number = number; value = cond (eqb number 0) value 0; state = cond (eqb number 0) next s }

-- the lent memories that calls write: the picture
pub record Memory : Type 0 where
  pub picture : List ℕ

abbrev pub memory : List ℕ → Memory
memory picture = record { picture = picture }

-- what a call that is lent memories leaves: its answer and the memories, changed together
pub record Outcome : Type 0 where
  pub answer : Answer
  pub memory : Memory

-- a refusal leaves the memories as handed in
unfoldable pub outcome : ℕ → ℕ → State → Memory → State → Memory → Outcome
outcome number value next changed s m =
    record { answer = answer number value next s; memory = cond (eqb number 0) changed m }

-- write value v to the register at address a
unfoldable pub written : State → ℕ → ℕ → Answer
written s a v = answer (write_number s a) 0 (after_write s a v) s

-- read the register at address a
unfoldable pub read_out : State → ℕ → Answer
read_out s a = answer (read_number s a) (register_at s a) (after_read s a) s

-- grant n write cycles: the used number is the value
unfoldable pub granted : State → ℕ → Memory → Tables → Outcome
granted s n m t =
    outcome (grant_number s m.picture t) (used s n) (after s n)
    (memory (paint (lights s.regs) (dots s t n) m.picture))
    s m

-- set the VB level
unfoldable pub blanked : State → Bool → Memory → Outcome
blanked s level m =
    outcome (vb_number s m.picture) 0 (after_vb s level) (memory (picture_vb s level m.picture)) s m

-- report an LPCK edge at segment h and line v
unfoldable pub struck : State → ℕ → ℕ → Answer
struck s h v = answer (edge_number s h v) 0 (after_edge s h v) s

-- the address outputs for the present X and Y; refused, all three are 0
pub record Located : Type 0 where
  pub number : ℕ
  pub address : Address

unfoldable pub no_outputs : Address
no_outputs = record { low = 0; high = 0; msl = 0 }

unfoldable pub located : State → Located
located s =
    record {
      number = address_number s;
      address = cond (eqb (address_number s) 0) (address_of s.format s.regs.x s.regs.y) no_outputs;
    }
