-- Readings of this crate's definitions.
-- Assumes nothing.
use Rattle.std.specs.Prelude.{List, ◌++◌}
use Rattle.basis.specs.Reading.{Reading}
use Rattle.motion.specs.Tables.Positions.{steps, distances, places, line_types}
use Rattle.motion.specs.Tables.Vectors.{vector_codes}
use Rattle.motion.specs.Tables.Lines.{offsets, counts, ways, apart}
use Rattle.motion.specs.Tables.Characters.{sizes, cells, cell_ways, slants, glyphs}

unfoldable pub readings : List Reading
readings = steps ++ (distances ++ (places ++ (line_types ++ (vector_codes ++ (offsets ++ (counts ++ (ways ++ (apart ++ (sizes ++ (cells ++ (cell_ways ++ (slants ++ glyphs))))))))))))
