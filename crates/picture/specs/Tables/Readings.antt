-- Readings of this crate's definitions.
-- Assumes nothing.
use Rattle.std.specs.Prelude.{List, ◌++◌}
use Rattle.basis.specs.Reading.{Reading}
use Rattle.picture.specs.Tables.Bits.{bits}
use Rattle.picture.specs.Tables.Dots.{dots, places}

unfoldable pub readings : List Reading
readings = bits ++ (dots ++ places)
