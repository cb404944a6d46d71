-- `drawing::tip::touch` meets its contract: the dot of the place, or none.
-- Assumes nothing.
use Rattle.drawing.specs.Run.{mark}
use Rattle.drawing.proofs.tip.touch.Goals as goal

pub returns-then-t-on : goal.returns-then-t-on
unfolding mark
returns-then-t-on c = rw c.if-t-on.true c.put_dot.ensures

pub returns-else-t-on : goal.returns-else-t-on
unfolding mark
returns-else-t-on c = rw c.if-t-on.false
