-- The states that no call refuses with 1, part by part: what `bad` tests, as facts. The laws `good_from` and `good_to`
-- lead from the test to the record and back.
-- Assumes nothing.
use Rattle.std.specs.Prelude.{◌≡◌, ◌≤◌, ◌<◌, Bool, false, ◌&&◌}
use Rattle.picture.specs.Bit.{bit_at}
use Rattle.rules.specs.Sequence.{Work, Idle, Steps, Clear, light_pen_open}
use Rattle.rules.specs.State.{Regs, State}
use Rattle.rules.specs.Figure.{cycles}

-- X and Y have 12 bits, CTRL1 7, CTRL2 4; bit 1 of XLP is low
pub record GoodRegs (r : Regs) : Type 0 where
  pub x : r.x ≤ 4095
  pub y : r.y ≤ 4095
  pub ctrl1 : r.ctrl1 ≤ 127
  pub ctrl2 : r.ctrl2 ≤ 15
  pub xlp : bit_at 1 r.xlp ≡ false

-- a command of code c that has used p cycles has one left; VB is low inside an open frame of a clear
abbrev pub GoodWork : Regs → Bool → Work → Type 0
GoodWork r vb Idle = Unit {0}
GoodWork r vb (Steps c p) = p < cycles r c
GoodWork r vb (Clear f o) = (vb && o.inside) ≡ false

-- and inside an open frame of the pen
pub record Good (s : State) : Type 0 where
  pub regs : GoodRegs s.regs
  pub work : GoodWork s.regs s.vb s.work
  pub light_pen : (s.vb && light_pen_open s.light_pen) ≡ false
