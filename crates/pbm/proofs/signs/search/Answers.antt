-- `pbm::signs::search` meets its contract.
-- Assumes nothing.
use Rattle.std.proofs.Common.{rules, sym, ◌∙◌}
use Rattle.pbm.proofs.Eights.{sought_end, sought_bad, sought_more, sought_other, sought_eight}
use Rattle.pbm.proofs.signs.search.Goals as goal

pub returns-in_err-b : goal.returns-in_err-b
returns-in_err-b c =
    let none = sought_end c.loop-sign.invariant c.loop-sign-test.true c.pass.ensures c.in_err-b.ensures.cases in
    search rules

pub returns-then-not-is_dot : goal.returns-then-not-is_dot
returns-then-not-is_dot c =
    sought_bad c.loop-sign.invariant c.loop-sign-test.true c.pass.ensures _ _ c.in_ok-b.ensures.cases.0 (sym c.is_dot.ensures ∙ c.if-not-is_dot.true)

pub loop-sign-preserved : goal.loop-sign-preserved
loop-sign-preserved c =
    sought_more c.loop-sign.invariant c.loop-sign-test.true c.pass.ensures _ _ c.in_ok-b.ensures.cases.0

pub returns-in_err-byte_of : goal.returns-in_err-byte_of
returns-in_err-byte_of c =
    let none = sought_other c.loop-sign.invariant c.loop-sign-test.false c.in_err-byte_of.ensures in
    search rules

pub returns : goal.returns
returns c = rw c.from.ensures (sought_eight c.loop-sign.invariant c.loop-sign-test.false c.in_ok-byte_of.ensures)
