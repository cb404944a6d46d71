-- `pbm::read::show` meets its contract.
-- Assumes nothing.
use Rattle.std.proofs.Common.{◌∙◌}
use Rattle.pbm.proofs.Showing.{showing_dots, showing_part, showing_more, showing_all}
use Rattle.pbm.proofs.read.show.Goals as goal

pub show_line-rest-requires : goal.show_line-rest-requires
show_line-rest-requires c =
    let size = c.loop-y.auto.pic ∙ c.requires.whole in
    rw (showing_part c.loop-y.invariant size c.loop-y-test.true) (showing_dots c.loop-y.invariant size c.loop-y-test.true)

pub loop-y-preserved : goal.loop-y-preserved
loop-y-preserved c =
    let size = c.loop-y.auto.pic ∙ c.requires.whole in
    let part = showing_part c.loop-y.invariant size c.loop-y-test.true in
    showing_more c.loop-y.invariant size c.loop-y-test.true (rw part at c.show_line-rest.ensures.shown)
    (rw part at c.show_line-rest.ensures.left)

pub returns : goal.returns
returns c = showing_all c.loop-y-test.false c.loop-y.invariant
