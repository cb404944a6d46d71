-- `pbm::signs::side_by_side` meets its contract: the first eight bytes are the next eight signs where they are dots.
-- Assumes nothing.
use Rattle.std.proofs.Common.{arith}
use Rattle.pbm.proofs.Eights.{beside}
use Rattle.pbm.proofs.signs.side_by_side.Goals as goal

pub returns : goal.returns
returns c =
    let cut = c.in_ok-signs.ensures.cases in
    beside (omega (arith, cut.2)) cut.0 cut.1 (rw c.from.ensures c.in_ok-byte_of.ensures)
