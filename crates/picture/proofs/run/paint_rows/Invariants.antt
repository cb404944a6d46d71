-- `picture::run::paint_rows`: the loop's invariant: so many rows are painted, and `at` is the first dot of the next.
-- Assumes nothing.
use mathlib.Core.Path.{◌≡◌}
use Prim.Native.Nat.{◌+◌, ◌*◌}
use Rattle.picture.specs.Dot.{paint}
use Rattle.picture.specs.Working.Runs.{rows_from}
use Rattle.picture.proofs.run.paint_rows.Given as goal

abbrev pub invariant-loop : goal.invariant-loop
invariant-loop l = record {
  next : l.at ≡ l.d + l.counter * l.stride;
  painted : l.pic ≡ paint l.lit (rows_from l.d l.stride l.n l.counter) l.initial.pic;
}
