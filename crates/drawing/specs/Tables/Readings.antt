-- Readings of this crate's definitions.
-- Assumes nothing.
use Rattle.std.specs.Prelude.{List, ◌++◌}
use Rattle.basis.specs.Reading.{Reading}
use Rattle.drawing.specs.Tables.Figures.{counts, ways, writing}
use Rattle.drawing.specs.Tables.Runs.{standing, standing_large, slanted_large, marks, drawings, slant_drawings}

unfoldable pub readings : List Reading
readings = counts ++ (ways ++ (writing ++ (standing ++ (standing_large ++ (slanted_large ++ (marks ++ (drawings ++ slant_drawings)))))))
