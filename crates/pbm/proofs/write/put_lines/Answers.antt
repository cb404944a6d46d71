-- `pbm::write::put_lines` meets its contract.
-- Assumes nothing.
use Rattle.std.proofs.Common.{◌∙◌, arith}
use Rattle.pbm.proofs.Parts.{lines_none, lines_room, lines_next, lines_all}
use Rattle.pbm.proofs.write.put_lines.Goals as goal

pub loop-eight-init : goal.loop-eight-init
loop-eight-init c =
    let items = c.chunks_exact-eight-items.ensures in
    rw c.into_iter-eight-iterator.ensures.into_iter_gives (items.size, lines_none items.rest)

pub put_line-requires : goal.put_line-requires
put_line-requires c =
    let next = c.in-Some.ensures.steps.1 in
    let size = next.1 ∙ c.loop-eight.invariant.0 in
    (size, lines_room c.loop-eight.invariant.1 _ _ next.0 size c.requires)

pub loop-eight-preserved : goal.loop-eight-preserved
loop-eight-preserved c =
    let steps = c.in-Some.ensures.steps in
    let size = steps.1.1 ∙ c.loop-eight.invariant.0 in
    (steps.0 ∙ c.loop-eight.invariant.0, lines_next c.loop-eight.invariant.1 _ _ steps.1.0 size c.put_line.ensures)

pub returns : goal.returns
returns c = lines_all c.loop-eight.invariant.1 (omega (arith, c.in-None.ensures.steps.1.0, c.loop-eight.invariant.0))
