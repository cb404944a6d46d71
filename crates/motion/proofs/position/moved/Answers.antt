-- `motion::position::moved` meets its contract.
-- Assumes nothing.
use Rattle.motion.specs.Position.{moved}
use Rattle.motion.proofs.Positions.{same_spot}
use Rattle.motion.proofs.position.moved.Goals as goal

pub returns : goal.returns
unfolding moved
returns c = same_spot c.forward.ensures c.forward-2.ensures
