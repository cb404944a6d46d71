-- `pbm::signs::find_eight` meets its contract: what is found behind white space is the same from the start on.
-- Assumes nothing.
use Rattle.std.proofs.Common.{rules}
use Rattle.pbm.specs.Working.Eights.{Eights}
use Rattle.pbm.proofs.Eights.{eights_beyond}
use Rattle.pbm.proofs.signs.find_eight.Goals as goal

pub returns : goal.returns
returns c =
    let found : Eights c.pass-signs.result.now c.or_else.result = search rules in
    eights_beyond _ _ c.or_else.result c.pass-signs.ensures found
