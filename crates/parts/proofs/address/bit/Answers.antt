use mathlib.Core.Path.{sym}
use native.Mathlib.Omega.{arith}
use Rattle.picture.proofs.Laws.{bit_digit}
use Rattle.parts.proofs.address.bit.Goals as goal

pub returns : goal.returns
returns c = (sym (bit_digit c.args.k c.args.v), omega arith)
