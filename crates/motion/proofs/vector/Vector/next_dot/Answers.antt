-- `motion::vector::Vector::next_dot` meets its contract: at the last dot the place stays, and before it goes on to the next.
-- Assumes nothing.
use mathlib.Core.Path.{refl}
use Prim.Native.Nat.{◌≤◌}
use native.Mathlib.Omega.{arith}
use Rattle.motion.proofs.Offsets.{error_lt, carry_most}
use Rattle.motion.proofs.Vectors.{on_next}
use Rattle.motion.proofs.vector.Vector.next_dot.Goals as goal
use Rattle.motion.proofs.vector.Vector.next_dot.Goals.{After-hopped-h}

pub hopped-h-requires : goal.hopped-h-requires
hopped-h-requires c =
    let l = c.args.self.line in
    omega (arith, error_lt l.long l.short c.args.s.i (omega arith))

-- the shorter axis steps by none or one
step-most : (h : After-hopped-h) → h.hopped-h.result.step ≤ 1
step-most h =
    let l = h.args.self.line in
    rw (h.hopped-h.ensures.0, h.requires.1) (carry_most l.long l.short h.args.s.i (omega arith) (omega arith))

pub advance-requires : goal.advance-requires
advance-requires c = omega (arith, step-most (goal.at.advance-requires c).After-hopped-h)

pub advance-requires-else-l-2 : goal.advance-requires-else-l-2
advance-requires-else-l-2 c = omega (arith, step-most (goal.at.advance-requires-else-l-2 c).After-hopped-h)

pub returns-then-l : goal.returns-then-l
returns-then-l c =
    let steep = c.if-l.true in (
      refl,
      on_next c.args.self.line c.args.s c.args.self.lengths c.if-l-s.false c.requires.1 c.hopped-h.ensures.0 c.hopped-h.ensures.1
          (rw steep c.advance.ensures) (rw steep c.advance-then-l.ensures),
    )

pub returns-else-l : goal.returns-else-l
returns-else-l c =
    let steep = c.if-l.false in (
      refl,
      on_next c.args.self.line c.args.s c.args.self.lengths c.if-l-s.false c.requires.1 c.hopped-h.ensures.0 c.hopped-h.ensures.1
          (rw steep c.advance-else-l.ensures) (rw steep c.advance-else-l-2.ensures),
    )
