-- `pbm::read::are_dots` meets its contract.
-- Assumes nothing.
use Rattle.std.proofs.Common.{sym}
use Rattle.pbm.proofs.Showing.{looked_bad, looked_more, looked_all}
use Rattle.pbm.proofs.read.are_dots.Goals as goal

pub returns-in_default : goal.returns-in_default
returns-in_default c = sym (looked_bad c.loop.invariant c.loop-test.true c.in_default.ensures)

pub loop-preserved : goal.loop-preserved
loop-preserved c = looked_more c.loop.invariant c.loop-test.true c.in-Some.ensures

pub returns : goal.returns
returns c = sym (looked_all c.loop-test.false c.loop.invariant)
