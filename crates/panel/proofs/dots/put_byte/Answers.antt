-- `panel::dots::put_byte` meets its contract.
-- Assumes nothing.
use mathlib.Core.Path.{◌≡◌}
use native.Mathlib.Omega.{arith}
use Rattle.panel.specs.Panel.{dot_lines}
use Rattle.text.proofs.Laws.{writes_none, writes_more}
use Rattle.panel.proofs.DotLines.{lines_dot, byte_dark}
use Rattle.panel.proofs.dots.put_byte.Goals as goal

pub returns-then-v-eq0 : goal.returns-then-v-eq0
returns-then-v-eq0 c = rw (byte_dark _ _ c.if-v-eq0.true) (writes_none, omega arith)

pub loop-k-init : goal.loop-k-init
unfolding dot_lines
loop-k-init c = (writes_none, omega arith)

pub loop-k-preserved : goal.loop-k-preserved
loop-k-preserved c =
    let text = lines_dot c.args.pic.now c.args.i c.loop-k.k c.loop-k-test.true in
    (rw text (writes_more c.loop-k.invariant.0 c.put_dot_line.ensures.0), omega arith)

pub returns : goal.returns
returns c =
    let all : c.loop-k.k ≡ 8 = omega arith in
    rw all at c.loop-k.invariant
