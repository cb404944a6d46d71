-- `motion::line_type::line_type` meets its contract, by the table's rule.
-- Assumes nothing.
use Prim.Native.Nat.{◌%◌}
use native.Mathlib.Omega.{arith}
use Rattle.motion.proofs.LineTypes.{repeats, dashed_is}
use Rattle.motion.proofs.line_type.line_type.Goals as goal

pub returns : goal.returns
returns c = (repeats (c.args.ctrl2 % 4) (omega arith), dashed_is c.args.ctrl2)
