-- `motion::character::laid` meets its contract.
-- Assumes nothing.
use Rattle.motion.specs.Character.{along, laid}
use Rattle.motion.proofs.character.laid.Goals as goal

pub returns-then-lie : goal.returns-then-lie
unfolding laid along
returns-then-lie c = rw (c.if-lie.true, c.along-far.ensures)

pub returns-else-lie : goal.returns-else-lie
unfolding laid along
returns-else-lie c = rw (c.if-lie.false, c.along-far.ensures)
