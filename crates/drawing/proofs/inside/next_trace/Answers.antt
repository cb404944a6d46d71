-- `drawing::inside::next_trace` meets its contract: at the last dot the trace stays, and before it goes on to the next.
-- Assumes nothing.
use mathlib.Core.Path.{refl, ap}
use native.Mathlib.Omega.{arith}
use lib.Dec.{eqb}
use Rattle.motion.proofs.Laws.{error_lt}
use Rattle.drawing.specs.Working.Inside.{onward}
use Rattle.drawing.proofs.Traces.{trace_next, trace_last, either_most}
use Rattle.drawing.proofs.inside.next_trace.Goals as goal

pub returns-then-v-s : goal.returns-then-v-s
returns-then-v-s c =
    let a = c.args in
    (refl, λ w h x y go sh on. trace_last a.v.line w h x y a.s c.if-v-s.true on)

pub hopped-h-requires : goal.hopped-h-requires
hopped-h-requires c =
    let a = c.args in
    omega (arith, error_lt a.v.line.long a.v.line.short a.s.i (omega arith))

pub overflow_add-result : goal.overflow_add-result
overflow_add-result c =
    omega (
      arith,
      c.hop_stride-n.ensures,
      c.requires.dot_bound.0,
      either_most (eqb c.hopped-h.result.step 0) c.args.by.straight c.args.by.diagonal c.requires.dot_bound.1 c.requires.dot_bound.2,
    )

pub returns : goal.returns
returns c = (
  refl,
  λ w k x y go sh on.
      trace_next c.args.v.line w k x y c.args.v.lengths c.args.by c.args.s go sh c.if-v-s.false c.requires.error_value.1
      c.hopped-h.ensures.0 c.hopped-h.ensures.1 (ap (onward c.args.s.dot) c.hop_stride-n.ensures) on,
)
