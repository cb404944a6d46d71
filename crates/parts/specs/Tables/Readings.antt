-- Readings of this crate's definitions.
-- Assumes nothing.
use Rattle.std.specs.Prelude.{List, ◌++◌}
use Rattle.basis.specs.Reading.{Reading}
use Rattle.parts.specs.Tables.Formats.{formats, format_numbers, commands, refusals, refusal_numbers}
use Rattle.parts.specs.Tables.Addresses.{addresses}

unfoldable pub readings : List Reading
readings = formats ++ (format_numbers ++ (commands ++ (refusals ++ (refusal_numbers ++ addresses))))
