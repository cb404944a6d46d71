-- `picture::run::paint_rows` meets its contract: one row more is the row after those that are painted.
-- Assumes nothing.
use mathlib.Core.Path.{◌∙◌}
use Prim.Native.Nat.{◌+◌, ◌*◌}
use native.Mathlib.Nat.{zero-add}
use native.Mathlib.Omega.{arith}
use Rattle.picture.specs.Working.Runs.{up_from}
use Rattle.picture.proofs.Dots.{paint_more}
use Rattle.picture.proofs.run.paint_rows.Goals as goal

pub loop-preserved : goal.loop-preserved
loop-preserved c =
    let a = c.args in
    let i = c.loop.invariant in
    record {
      next = omega (arith, i.next);
      painted = c.paint_dots.ensures ∙ rw (i.painted, i.next, paint_more a.lit (λ k. up_from (a.d + k * a.stride) a.n) 0 c.loop.counter a.pic.now, zero-add);
    }
