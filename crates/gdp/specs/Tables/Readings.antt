-- Readings of this crate's definitions.
-- Assumes nothing.
use Rattle.std.specs.Prelude.{List, ◌++◌}
use Rattle.basis.specs.Reading.{Reading}
use Rattle.gdp.specs.Tables.Layout.{layout}
use Rattle.gdp.specs.Tables.Answers.{flaws, answer_readings}

unfoldable pub readings : List Reading
readings = layout ++ (flaws ++ answer_readings)
