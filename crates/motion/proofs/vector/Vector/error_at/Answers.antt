-- `motion::vector::Vector::error_at` meets its contract: the definition's own sum, which fits; with M = 0 there is only dot 0.
-- Assumes nothing.
use mathlib.Core.Path.{◌≡◌, refl}
use native.Mathlib.Nat.{zero-mul}
use native.Mathlib.Omega.{arith}
use Rattle.motion.specs.Working.Strokes.{error_of}
use Rattle.motion.proofs.vector.Vector.error_at.Goals as goal

pub returns-then-long-eq0 : goal.returns-then-long-eq0
unfolding error_of
returns-then-long-eq0 c =
    let none : c.args.self.line.long ≡ 0 = omega arith in
    let first : c.args.i ≡ 0 = omega arith in
    simp (none, first, zero-mul)

pub returns : goal.returns
unfolding error_of
returns c = refl
