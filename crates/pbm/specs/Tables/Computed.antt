-- `unfolding computed` opens every definition of this crate and of those below, for what is proved by computation.
-- Assumes nothing.
use Rattle.basis.specs.Reading.{computed as reading}
use Rattle.text.specs.Tables.Computed.{computed as of-text}
use Rattle.parts.specs.Tables.Computed.{computed as of_parts}
use Rattle.pbm.specs.File.{head, sign, signs, file_lines, body, file}
use Rattle.pbm.specs.Contents.{is_white, passed, is_digit, digits, behind_digits, from_width, from_height, from_dots, marked, opens, sized_as, taken, is_dot, are_dots, weighed, packed, shown}
use Rattle.pbm.specs.Calls.{settled, misfit, file_of, out_number, written_out, signs_for, in_number, read_in, told as answered, told_read}
use Rattle.pbm.specs.Spaced.{is_gap, are_gaps, parts, sound, spread, line_signs, padded, spaced}
use Rattle.pbm.specs.Tables.Files.{head_readings, sign_readings, own, eight, line_readings, body_readings, file_readings}
use Rattle.pbm.specs.Tables.Texts.{p1, n512, n256, by_white, by_digit, character_readings, passed_readings, number_readings, from_each, place_readings}
use Rattle.pbm.specs.Tables.Heads.{opened, open_readings, sized, said, size_readings}
use Rattle.pbm.specs.Tables.Dots.{dot_readings, eight_of, shown_readings}
use Rattle.pbm.specs.Tables.Calls.{out_by, in_by, outcome, answer_row, formats, over_formats, outcome_readings, out_readings, given, low, in_readings}
use Rattle.pbm.specs.Tables.Gaps.{gap_readings, spacing, sound_readings, eights, three, spread_readings, spaced_readings}
use Rattle.pbm.specs.Tables.Readings.{of_files, of_texts, of_gaps, of_calls, readings}

unfoldable pub computed : Unit {0}
unfolding reading of-text of_parts head sign signs file_lines body file is_white passed is_digit digits behind_digits from_width from_height from_dots marked opens sized_as taken is_dot are_dots weighed packed shown settled misfit file_of out_number written_out signs_for in_number read_in answered told_read is_gap are_gaps parts sound spread line_signs padded spaced head_readings sign_readings own eight line_readings body_readings file_readings p1 n512 n256 by_white by_digit character_readings passed_readings number_readings from_each place_readings opened open_readings sized said size_readings dot_readings eight_of shown_readings out_by in_by outcome answer_row formats over_formats outcome_readings out_readings given low in_readings gap_readings spacing sound_readings eights three spread_readings spaced_readings of_files of_texts of_gaps of_calls readings
computed = tt
