-- Readings of this crate's definition.
-- Assumes nothing.
use Rattle.std.specs.Prelude.{List}
use Rattle.basis.specs.Reading.{Reading}
use Rattle.card.specs.Tables.Numbers.{number_readings}

unfoldable pub readings : List Reading
readings = number_readings
