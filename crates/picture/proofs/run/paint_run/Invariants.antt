-- `picture::run::paint_run`: the loop's invariant: the first `done` dots are painted. The measure is the dots left.
-- Assumes nothing.
use mathlib.Core.Path.{◌≡◌}
use Prim.Native.Nat.{◌-◌, ◌≤◌}
use Rattle.picture.specs.Dot.{paint}
use Rattle.picture.specs.Working.Runs.{up_from}
use Rattle.picture.proofs.run.paint_run.Given as goal

abbrev pub invariant-loop-done : goal.invariant-loop-done
invariant-loop-done l = record {
  within : l.done ≤ l.n;
  painted : l.pic ≡ paint l.lit (up_from l.d l.done) l.initial.pic;
}

abbrev pub decreases-loop-done : goal.decreases-loop-done
decreases-loop-done l = l.n - l.done
