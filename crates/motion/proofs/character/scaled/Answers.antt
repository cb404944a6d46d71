-- `motion::character::scaled` meets its contract.
-- Assumes nothing.
use mathlib.Core.Path.{refl}
use native.Mathlib.Omega.{arith}
use borrow.Author.Tests.{ne_eqb}
use Rattle.motion.specs.Character.{scale}
use Rattle.motion.proofs.character.scaled.Goals as goal

pub returns-then-n-eq0 : goal.returns-then-n-eq0
unfolding scale
returns-then-n-eq0 c = rw c.if-n-eq0.true (refl, omega arith, omega arith)

pub returns-else-n-eq0 : goal.returns-else-n-eq0
unfolding scale
returns-else-n-eq0 c = rw (ne_eqb _ _ c.if-n-eq0.false) (refl, omega arith, omega arith)
