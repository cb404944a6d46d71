-- `pbm::write::put_body` meets its contract.
-- Assumes nothing.
use Rattle.std.proofs.Common.{◌∙◌, arith}
use Rattle.pbm.proofs.Parts.{tops_more, tops_all}
use Rattle.pbm.proofs.write.put_body.Goals as goal

pub loop-line-preserved : goal.loop-line-preserved
loop-line-preserved c =
    let steps = c.in-Some.ensures.steps in
    let size = steps.2.1 ∙ c.loop-line.invariant.0 in (
      steps.0 ∙ c.loop-line.invariant.0,
      tops_more c.loop-line.invariant.1 c.requires.lines.0 _ _ steps.2.0 size c.put_lines.ensures,
    )

pub returns : goal.returns
returns c =
    tops_all c.loop-line.invariant.1 c.requires.lines.0
    (omega (arith, c.in-None.ensures.steps.2.0, c.loop-line.invariant.0))
