-- `motion::character::along` meets its contract.
-- Assumes nothing.
use mathlib.Core.Path.{refl}
use native.Mathlib.Omega.{arith}
use Rattle.motion.specs.Character.{along}
use Rattle.motion.proofs.character.along.Goals as goal

pub returns-then-lie : goal.returns-then-lie
unfolding along
returns-then-lie c = rw c.if-lie.true refl

pub returns-else-lie : goal.returns-else-lie
unfolding along
returns-else-lie c = rw c.if-lie.false (omega arith)
