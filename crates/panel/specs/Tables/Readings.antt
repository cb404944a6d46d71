-- Readings of this crate's definitions.
-- Assumes nothing.
use Rattle.std.specs.Prelude.{List, ◌++◌}
use Rattle.basis.specs.Reading.{Reading}
use Rattle.panel.specs.Tables.Records.{letters, field_readings, limits}
use Rattle.panel.specs.Tables.Outputs.{lines, played, cards, rows}
use Rattle.panel.specs.Tables.Example.{examples}

unfoldable pub readings : List Reading
readings = letters ++ (field_readings ++ (limits ++ (lines ++ (played ++ (cards ++ (rows ++ examples))))))
