-- `unfolding computed` opens every definition of this crate and of those below, for what is proved by computation.
-- Assumes nothing.
use Rattle.basis.specs.Reading.{computed as reading}
use Rattle.rules.specs.Tables.Computed.{computed as of-rules}
use Rattle.lists.specs.Play.{wrote, taking, done, item_dots, done_all, list_dots}
use Rattle.lists.specs.Erase.{back_to, eraser_by_write, eraser_by_command, backwards_to, draws_none}
use Rattle.lists.specs.Tables.Items.{item_row, event_row, event_rows, own, items}
use Rattle.lists.specs.Tables.Calls.{calls}
use Rattle.lists.specs.Tables.Plays.{at, lettered, work_row, state_row, sample, walk, plays}
use Rattle.lists.specs.Tables.Readings.{readings}

unfoldable pub computed : Unit {0}
unfolding reading of-rules wrote taking done item_dots done_all list_dots back_to eraser_by_write eraser_by_command backwards_to draws_none item_row event_row event_rows own items calls at lettered work_row state_row sample walk plays readings
computed = tt
