-- Readings of this crate's definitions.
-- Assumes nothing.
use Rattle.std.specs.Prelude.{List, ◌++◌}
use Rattle.basis.specs.Reading.{Reading}
use Rattle.lists.specs.Tables.Items.{items}
use Rattle.lists.specs.Tables.Calls.{calls}
use Rattle.lists.specs.Tables.Plays.{plays}

unfoldable pub readings : List Reading
readings = items ++ (calls ++ plays)
