-- `drawing::tip::touch_rows` meets its contract: the dots of the rows, or none.
-- Assumes nothing.
use Rattle.drawing.specs.Working.Cycle.{mark_rows}
use Rattle.drawing.proofs.tip.touch_rows.Goals as goal

pub paint_rows-requires : goal.paint_rows-requires
paint_rows-requires c =
    record {
      stride_bound = (c.requires.down_value.1, c.requires.down_value.2);
      by_index = c.requires.by_index;
    }

pub returns-then-on : goal.returns-then-on
unfolding mark_rows
returns-then-on c =
    rw (c.requires.down_value.0, c.if-on.true) c.paint_rows.ensures

pub returns-else-on : goal.returns-else-on
unfolding mark_rows
returns-else-on c = rw (c.requires.down_value.0, c.if-on.false)
