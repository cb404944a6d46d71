-- The tables of whole rows hold: antt computes them.
-- Assumes nothing.
use mathlib.Core.Path.{◌≡◌, refl}
use mathlib.Core.Bool.{true}
use Rattle.basis.specs.Reading.{every}
use Rattle.rules.specs.Tables.RegisterRows.{bytes_through, one_changes, halves, address_numbers, each_read}
use Rattle.rules.specs.Tables.CommandRows.{short_commands, long_commands}
use Rattle.rules.specs.Tables.FrameRows.{levels, levels_flagged, pictures, open_frames, lpck_edges, status_rows, outsides}
use Rattle.rules.specs.Tables.DrawRows.{stroke_rows, line_type_rows, letter_rows, slanted_letter_rows, code_rows, turned_rows, slanted_rows, nothing_left, ctrl1_bits, ctrl2_bits}
use Rattle.rules.specs.Tables.RefusalRows.{limits, progress, memories, answer_rows, output_rows, events}
use Rattle.rules.specs.Tables.FormatRows.{format_writes, format_reads, format_frames, flaw_rows}
use Rattle.rules.specs.Tables.FreeRows.{free_writes, free_reads, free_frames, free_grants, free_refusals}
use Rattle.rules.specs.Tables.TwoFrames.{two_frames}
use Rattle.rules.specs.Tables.Slants.{slanted, slant_parts, slant_edges, untilted}
use Rattle.rules.specs.Tables.Computed.{computed}

-- every address, written and read
pub bytes_through_hold : every bytes_through ≡ true
unfolding computed
bytes_through_hold = refl

pub one_changes_hold : every one_changes ≡ true
unfolding computed
one_changes_hold = refl

pub halves_hold : every halves ≡ true
unfolding computed
halves_hold = refl

pub address_numbers_hold : every address_numbers ≡ true
unfolding computed
address_numbers_hold = refl

pub each_read_hold : every each_read ≡ true
unfolding computed
each_read_hold = refl

-- all 256 commands
pub short_commands_hold : every short_commands ≡ true
unfolding computed
short_commands_hold = refl

pub long_commands_hold : every long_commands ≡ true
unfolding computed
long_commands_hold = refl

-- VB, LPCK and STATUS
pub levels_hold : every levels ≡ true
unfolding computed
levels_hold = refl

pub levels_flagged_hold : every levels_flagged ≡ true
unfolding computed
levels_flagged_hold = refl

pub pictures_hold : every pictures ≡ true
unfolding computed
pictures_hold = refl

pub open_frames_hold : every open_frames ≡ true
unfolding computed
open_frames_hold = refl

pub lpck_edges_hold : every lpck_edges ≡ true
unfolding computed
lpck_edges_hold = refl

pub status_rows_hold : every status_rows ≡ true
unfolding computed
status_rows_hold = refl

pub outsides_hold : every outsides ≡ true
unfolding computed
outsides_hold = refl

-- granted cycles
pub stroke_rows_hold : every stroke_rows ≡ true
unfolding computed
stroke_rows_hold = refl

pub line_type_rows_hold : every line_type_rows ≡ true
unfolding computed
line_type_rows_hold = refl

pub letter_rows_hold : every letter_rows ≡ true
unfolding computed
letter_rows_hold = refl

pub slanted_letter_rows_hold : every slanted_letter_rows ≡ true
unfolding computed
slanted_letter_rows_hold = refl

pub code_rows_hold : every code_rows ≡ true
unfolding computed
code_rows_hold = refl

pub turned_rows_hold : every turned_rows ≡ true
unfolding computed
turned_rows_hold = refl

pub slanted_rows_hold : every slanted_rows ≡ true
unfolding computed
slanted_rows_hold = refl

pub nothing_left_hold : every nothing_left ≡ true
unfolding computed
nothing_left_hold = refl

pub ctrl1_bits_hold : every ctrl1_bits ≡ true
unfolding computed
ctrl1_bits_hold = refl

pub ctrl2_bits_hold : every ctrl2_bits ≡ true
unfolding computed
ctrl2_bits_hold = refl

-- every cause of refusal
pub limits_hold : every limits ≡ true
unfolding computed
limits_hold = refl

pub progress_hold : every progress ≡ true
unfolding computed
progress_hold = refl

pub memories_hold : every memories ≡ true
unfolding computed
memories_hold = refl

pub answer_rows_hold : every answer_rows ≡ true
unfolding computed
answer_rows_hold = refl

pub output_rows_hold : every output_rows ≡ true
unfolding computed
output_rows_hold = refl

pub events_hold : every events ≡ true
unfolding computed
events_hold = refl

-- what the format has no part in
pub format_writes_hold : every format_writes ≡ true
unfolding computed
format_writes_hold = refl

pub format_reads_hold : every format_reads ≡ true
unfolding computed
format_reads_hold = refl

pub format_frames_hold : every format_frames ≡ true
unfolding computed
format_frames_hold = refl

pub flaw_rows_hold : every flaw_rows ≡ true
unfolding computed
flaw_rows_hold = refl

-- what has no part in a call
pub free_writes_hold : every free_writes ≡ true
unfolding computed
free_writes_hold = refl

pub free_reads_hold : every free_reads ≡ true
unfolding computed
free_reads_hold = refl

pub free_frames_hold : every free_frames ≡ true
unfolding computed
free_frames_hold = refl

pub free_grants_hold : every free_grants ≡ true
unfolding computed
free_grants_hold = refl

pub free_refusals_hold : every free_refusals ≡ true
unfolding computed
free_refusals_hold = refl

-- a clear's frames, two with FMAT high
pub two_frames_hold : every two_frames ≡ true
unfolding computed
two_frames_hold = refl

-- slanted characters: whole, in part, at the edges; and vectors, which tilt leaves as they are
pub slanted_hold : every slanted ≡ true
unfolding computed
slanted_hold = refl

pub slant_parts_hold : every slant_parts ≡ true
unfolding computed
slant_parts_hold = refl

pub slant_edges_hold : every slant_edges ≡ true
unfolding computed
slant_edges_hold = refl

pub untilted_hold : every untilted ≡ true
unfolding computed
untilted_hold = refl
