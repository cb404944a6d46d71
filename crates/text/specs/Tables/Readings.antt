-- Readings of this crate's definitions.
-- Assumes nothing.
use Rattle.std.specs.Prelude.{List, ◌++◌}
use Rattle.basis.specs.Reading.{Reading}
use Rattle.text.specs.Tables.Digits.{digits, lengths, values, decimals}
use Rattle.text.specs.Tables.Parted.{parted}

unfoldable pub readings : List Reading
readings = digits ++ (lengths ++ (values ++ (decimals ++ parted)))
