-- `unfolding computed` opens every definition of the machine, for what is proved by computation.
-- Assumes nothing.
use Rattle.parts.specs.Tables.Computed.{computed as of_parts}
use Rattle.drawing.specs.Tables.Computed.{computed as of-drawing}
use Rattle.rules.specs.State.{fresh, light_pen_raises, vb_raises, ready_raises}
use Rattle.rules.specs.Status.{outside, flagged, status}
use Rattle.rules.specs.Registers.{register_at, light_pen_read, after_read, stored}
use Rattle.rules.specs.Commands.{commanded, clearing, prompt, begun, after_write}
use Rattle.rules.specs.Figure.{lie, figure_by, figure, cycles, glyph}
use Rattle.rules.specs.Cycles.{pen_down, lights, cyclic, tip, start, left_of, left, used, dots_of, dots, rested, after_of, after}
use Rattle.rules.specs.Blanking.{fallen, clear_ends, light_pen_ends, risen, after_vb, picture_vb, after_edge}
use Rattle.rules.specs.Refusals.{bad_regs, bad_work, bad, wrong_picture, wrong_table, no_register, read_only, busy, off_screen, write_number, read_number, grant_number, vb_number, edge_number, address_number}
use Rattle.rules.specs.Calls.{answer, outcome, written, read_out, granted, blanked, struck, no_outputs, located}
use Rattle.rules.specs.Card.{outcome_of, next, played}
use Rattle.rules.specs.Tables.Play.{note_of, noted, said, drawn, ends, lines, addressed, dark, blank, new, row, box, numbers, just}
use Rattle.rules.specs.Tables.Readings.{card, pen, cyclic_pen, from, draw, off_right, off_top, cell, readings}
use Rattle.rules.specs.Tables.MoreReadings.{frame, registers, prompts, flag_readings, full, clears, light_pens, fan, directions, vectors, line_types, lettered, letter, characters, walk_x, walk_y, addresses, six, with_row, running, in_frame, codes, refused, taken, taken_busy, states, more_readings}
use Rattle.rules.specs.Tables.FineReadings.{dotted, bytes_lit, edged, aimed, sized, fine_readings}
use Rattle.rules.specs.Tables.Rows.{nth as row-nth, but as row-but, high as row-high, format_named as row-formatNamed, pen_named as row-penNamed, frames_named as row-framesNamed, work_named as row-workNamed, stated as row-stated, format_told as row-formatTold, pen_told as row-penTold, frames_told as row-framesTold, work_told as row-workTold, shown as row-shown, answered as row-answered, writes as row-writes, reads as row_reads, strikes as row-strikes, gives as row_gives, refuses as row-refuses, rich as row-rich}
use Rattle.rules.specs.Tables.RegisterRows.{ramps as r-ramps, steps as r-steps, sixteen as r-sixteen, bytes_at as r-bytesAt, bytes_through as r-bytesThrough, one_changes as r-oneChanges, ends_of as r-endsOf, halves_of as r-halvesOf, halves as r-halves, numbers_of as r-numbersOf, none as r-none, running as r-running, clearing as r-clearing, address_numbers as r-addressNumbers, flagged as r-flagged, read_at as r-readAt, each_read as r-eachRead}
use Rattle.rules.specs.Tables.CommandRows.{ctrl1 as c-ctrl1, at as c-at, waits as c-waits, begins as c-begins, sixteen_of as c-sixteenOf, short_commands as c-shortCommands, long_commands as c-longCommands}
use Rattle.rules.specs.Tables.FrameRows.{doing as f-doing, scene as f-scene, mask as f-mask, falls as f-falls, rises as f-rises, blankings as f-blankings, levels as f-levels, levels_flagged as f-levelsFlagged, pictured as f-pictured, as_is as f-asIs, pictures as f-pictures, open_frames as f-openFrames, struck_to as f-struckTo, lpck_edges as f-lpckEdges, positions as f-positions, placed as f-placed, status_of as f-statusOf, status_bits as f-statusBits, statuses as f-statuses, status_rows as f-statusRows, outside_bits as f-outsideBits, upper as f-upper, outsides as f-outsides}
use Rattle.rules.specs.Tables.DrawRows.{counted as d-counted, lettered as d-lettered, granting as d-granting, sizes as d-sizes, size as d-size, stroke as d-stroke, stroke_x as d-strokeX, stroke_y as d-strokeY, stroke_dots as d-strokeDots, stroke_after as d-strokeAfter, strokes as d-strokes, dashed as d-dashed, four_types as d-fourTypes, line_type_rows as d-lineTypeRows, lean as d-lean, letter as d-letter, letter_at as d-letterAt, letter_after as d-letterAfter, inks as d-inks, ink_dots as d-inkDots, letter_size as d-letterSize, letter_from as d-letterFrom, letters as d-letters, any as d-any, counts as d-counts, full as d-full, ran as d-ran, over as d-over, ended as d-ended, far_x as d-farX, far_y as d-farY, end_x as d-endX, end_y as d-endY, vector_ran as d-vectorRan, letter_ran as d-letterRan, block_ran as d-blockRan, codes as d-codes, nothing_left as d-nothingLeft, one_dot as d-oneDot, ctrl1_bits as d-ctrl1Bits, ctrl2_bits as d-ctrl2Bits, stroke_rows as d-strokeRows, letter_rows as d-letterRows, slanted_letter_rows as d-slantedLetterRows, turned_rows as d-turnedRows, slanted_rows as d-slantedRows, code_rows as d-codeRows}
use Rattle.rules.specs.Tables.RefusalRows.{flaw as n-flaw, six as n-six, refused_six as n-refusedSix, flaws as n-flaws, limits as n-limits, doing as n-doing, lengths as n-lengths, length_of as n-lengthOf, progress as n-progress, lent as n-lent, memories as n-memories, other as n-other, kept as n_kept, answer_rows as n-answerRows, outputs as n-outputs, output_rows as n-outputRows, carded as n-carded, after_event as n-afterEvent, lent_row as n-lentRow, events as n-events}
use Rattle.rules.specs.Tables.FormatRows.{of as o-of, answer_of as o-answerOf, alike as o-alike, format_writes as o-formatWrites, format_reads as o-formatReads, behind as o-behind, levelled as o-levelled, last_frame as o-lastFrame, levels as o-levels, format_frames as o-formatFrames, edge_rows as o-edgeRows, flaw_rows as o-flawRows}
use Rattle.rules.specs.Tables.FreeRows.{other as p-other, commands_at as p-commandsAt, registers_with as p-registersWith, free_writes as p-freeWrites, values_at as p-valuesAt, counting as p-counting, free_reads as p-freeReads, free_frames as p-freeFrames, two_of_four as p-twoOfFour, all_dots as p-allDots, in_portions as p-inPortions, at_once as p-atOnce, portioned as p-portioned, outward as p-outward, outwardly as p-outwardly, of_size as p-ofSize, half as p-half, stands as p-stands, large as p-large, granted_to as p-grantedTo, free_grants as p-freeGrants, free_refusals as p-freeRefusals}
use Rattle.rules.specs.Frames.{levels_in, rises_in, frames_after, unwritten}
use Rattle.rules.specs.Tables.TwoFrames.{told_to as t-toldTo, called as t-called, repainted as t-repainted, traced as t-traced, trace as t-trace, kept as t-kept, darkened as t-darkened, lit as t-lit, low as t-low, high as t-high, twice as t-twice, clearing as t-clearing, two_frames as t-twoFrames}
use Rattle.rules.specs.Tables.Slants.{slope as s-slope, column as s-column, climb as s-climb, slopes as s-slopes, climbs as s-climbs, marks as s-marks, marked as s-marked, with_f as s-withF, f as s-f, some as s-some, solid as s-solid, slanted as s-slanted, slant_parts as s-slantParts, slant_edges as s-slantEdges, untilted as s-untilted}

unfoldable pub computed : Unit {0}
unfolding of_parts of-drawing fresh light_pen_raises vb_raises ready_raises outside flagged status register_at light_pen_read after_read stored commanded clearing prompt begun after_write lie figure_by figure cycles glyph pen_down lights cyclic tip start left_of left used dots_of dots rested after_of after fallen clear_ends light_pen_ends risen after_vb picture_vb after_edge bad_regs bad_work bad wrong_picture wrong_table no_register read_only busy off_screen write_number read_number grant_number vb_number edge_number address_number answer outcome written read_out granted blanked struck no_outputs located outcome_of next played note_of noted said drawn ends lines addressed dark blank new row box numbers just card pen cyclic_pen from draw off_right off_top cell readings frame registers prompts flag_readings full clears light_pens fan directions vectors line_types lettered letter characters walk_x walk_y addresses six with_row running in_frame codes refused taken taken_busy states more_readings dotted bytes_lit edged aimed sized fine_readings row-nth row-but row-high row-formatNamed row-penNamed row-framesNamed row-workNamed row-stated row-formatTold row-penTold row-framesTold row-workTold row-shown row-answered row-writes row_reads row-strikes row_gives row-refuses row-rich r-ramps r-steps r-sixteen r-bytesAt r-bytesThrough r-oneChanges r-endsOf r-halvesOf r-halves r-numbersOf r-none r-running r-clearing r-addressNumbers r-flagged r-readAt r-eachRead c-ctrl1 c-at c-waits c-begins c-sixteenOf c-shortCommands c-longCommands f-doing f-scene f-mask f-falls f-rises f-blankings f-levels f-levelsFlagged f-pictured f-asIs f-pictures f-openFrames f-struckTo f-lpckEdges f-positions f-placed f-statusOf f-statusBits f-statuses f-statusRows f-outsideBits f-upper f-outsides d-counted d-lettered d-granting d-sizes d-size d-stroke d-strokeX d-strokeY d-strokeDots d-strokeAfter d-strokes d-dashed d-fourTypes d-lineTypeRows d-lean d-letter d-letterAt d-letterAfter d-inks d-inkDots d-letterSize d-letterFrom d-letters d-any d-counts d-full d-ran d-over d-ended d-farX d-farY d-endX d-endY d-vectorRan d-letterRan d-blockRan d-codes d-nothingLeft d-oneDot d-ctrl1Bits d-ctrl2Bits d-strokeRows d-letterRows d-slantedLetterRows d-turnedRows d-slantedRows d-codeRows n-flaw n-six n-refusedSix n-flaws n-limits n-doing n-lengths n-lengthOf n-progress n-lent n-memories n-other n_kept n-answerRows n-outputs n-outputRows n-carded n-afterEvent n-lentRow n-events o-of o-answerOf o-alike o-formatWrites o-formatReads o-behind o-levelled o-lastFrame o-levels o-formatFrames o-edgeRows o-flawRows p-other p-commandsAt p-registersWith p-freeWrites p-valuesAt p-counting p-freeReads p-freeFrames p-twoOfFour p-allDots p-inPortions p-atOnce p-portioned p-outward p-outwardly p-ofSize p-half p-stands p-large p-grantedTo p-freeGrants p-freeRefusals levels_in rises_in frames_after unwritten t-toldTo t-called t-repainted t-traced t-trace t-kept t-darkened t-lit t-low t-high t-twice t-clearing t-twoFrames s-slope s-column s-climb s-slopes s-climbs s-marks s-marked s-withF s-f s-some s-solid s-slanted s-slantParts s-slantEdges s-untilted
computed = tt
