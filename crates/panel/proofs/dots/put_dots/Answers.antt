-- `panel::dots::put_dots` meets its contract.
-- Assumes nothing.
use mathlib.Core.Path.{◌≡◌}
use native.Mathlib.Omega.{arith}
use Rattle.panel.specs.Panel.{dot_lines}
use Rattle.text.proofs.Laws.{writes_none, writes_more}
use Rattle.panel.proofs.DotLines.{lines_byte}
use Rattle.panel.proofs.dots.put_dots.Goals as goal

pub loop-i-init : goal.loop-i-init
unfolding dot_lines
loop-i-init c = (writes_none, omega arith)

pub loop-i-preserved : goal.loop-i-preserved
loop-i-preserved c =
    let text = lines_byte c.args.pic.now c.loop-i.i in
    (rw text (writes_more c.loop-i.invariant.0 c.put_byte.ensures.0), omega arith)

pub returns : goal.returns
returns c =
    let all : c.loop-i.i ≡ 16384 = omega arith in
    rw all at c.loop-i.invariant
