-- `picture::run::paint_run` meets its contract: the dots of one byte more follow those that are painted.
-- Assumes nothing.
use mathlib.Core.Path.{◌∙◌}
use mathlib.Core.List.{[], ◌∷◌}
use native.Mathlib.Omega.{arith}
use Rattle.picture.proofs.Dots.{paint_further}
use Rattle.picture.proofs.run.paint_run.Goals as goal

pub loop-done-preserved : goal.loop-done-preserved
loop-done-preserved c =
    let a = c.args in
    let l = c.loop-done in
    record {
      within = omega (arith, c.in_byte-m.ensures);
      painted = c.paint_byte.ensures ∙ rw (l.invariant.painted, paint_further a.lit (λ e. e ∷ []) a.d l.done c.in_byte-m.result a.pic.now);
    }
