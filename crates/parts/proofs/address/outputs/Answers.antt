-- `parts::address::outputs` meets its contract: the format's lines, in two reversed bytes.
-- Assumes nothing.
use Rattle.parts.proofs.Joins.{joined}
use Rattle.parts.proofs.address.outputs.Goals as goal

pub returns : goal.returns
returns c =
    let across = c.reversed-across in
    let up = c.reversed-up in
    joined c.wiring_of-w.ensures across.result up.result across.ensures up.ensures
