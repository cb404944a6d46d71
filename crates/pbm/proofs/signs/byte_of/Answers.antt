-- `pbm::signs::byte_of` meets its contract: the signs are weighed from the last one on.
-- Assumes nothing.
use Rattle.std.proofs.Common.{sym, ◌∙◌, rules}
use Rattle.pbm.proofs.Eights.{weighed_none, next_weighed, weighed_more}
use Rattle.pbm.proofs.signs.byte_of.Goals as goal

pub loop-b-init : goal.loop-b-init
loop-b-init c = search (rules, weighed_none)

pub below-byte-requires : goal.below-byte-requires
below-byte-requires c =
    next_weighed _ _ c.loop-b.invariant c.in-Some.ensures.steps c.told-signs (sym c.are_eight.ensures ∙ c.if-not-are_eight.false)

pub loop-b-preserved : goal.loop-b-preserved
loop-b-preserved c = weighed_more _ _ c.loop-b.invariant c.in-Some.ensures.steps c.below-byte.ensures
