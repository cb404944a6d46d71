-- `picture::dot::bit_at` meets its contract: a bit by a shift.
-- Assumes nothing.
use mathlib.Core.Path.{sym}
use Rattle.picture.proofs.Bits.{bit_shift}
use Rattle.picture.proofs.dot.bit_at.Goals as goal

pub returns : goal.returns
returns c = sym (bit_shift c.args.k c.args.v)
