-- `drawing::letters::draw_cells` meets its contract, by whole columns and single cycles.
-- Assumes nothing.
use native.Mathlib.Omega.{arith}
use Rattle.drawing.proofs.Further.{no_further, both_further}
use Rattle.drawing.proofs.letters.draw_cells.Goals as goal

pub loop-c-init : goal.loop-c-init
loop-c-init g c = no_further c.requires.counts.0 c.requires.counts.1

pub go_on-c-requires : goal.go_on-c-requires
go_on-c-requires g c =
    record {
      screen = rw c.loop-c.auto.pic c.requires.screen;
      counts = (c.loop-c.invariant.counts, c.loop-c-test.true, c.requires.counts.2);
    }

pub loop-c-smaller : goal.loop-c-smaller
loop-c-smaller g c =
    let next = c.go_on-c.ensures in
    omega (arith, next.0, next.1.most)

pub loop-c-preserved : goal.loop-c-preserved
loop-c-preserved g c = both_further c.loop-c.invariant c.go_on-c.ensures.1

pub returns : goal.returns
returns g c =
    let inv = c.loop-c.invariant in
    (omega (arith, inv.most), inv)
