-- Readings of this crate's definitions.
-- Assumes nothing.
use Rattle.std.specs.Prelude.{List, ◌++◌}
use Rattle.basis.specs.Reading.{Reading}
use Rattle.pbm.specs.Tables.Files.{head_readings, sign_readings, line_readings, body_readings, file_readings}
use Rattle.pbm.specs.Tables.Texts.{character_readings, passed_readings, number_readings, place_readings}
use Rattle.pbm.specs.Tables.Heads.{open_readings, size_readings}
use Rattle.pbm.specs.Tables.Dots.{dot_readings, shown_readings}
use Rattle.pbm.specs.Tables.Calls.{outcome_readings, out_readings, in_readings}
use Rattle.pbm.specs.Tables.Gaps.{gap_readings, sound_readings, spread_readings, spaced_readings}

unfoldable pub of_files : List Reading
of_files = head_readings ++ (sign_readings ++ (line_readings ++ (body_readings ++ file_readings)))

unfoldable pub of_texts : List Reading
of_texts = character_readings ++ (passed_readings ++ (number_readings ++ (place_readings ++ (open_readings ++ (size_readings ++ (dot_readings ++ shown_readings))))))

unfoldable pub of_gaps : List Reading
of_gaps = gap_readings ++ (sound_readings ++ (spread_readings ++ spaced_readings))

unfoldable pub of_calls : List Reading
of_calls = outcome_readings ++ (out_readings ++ in_readings)

unfoldable pub readings : List Reading
readings = of_files ++ (of_texts ++ (of_gaps ++ of_calls))
