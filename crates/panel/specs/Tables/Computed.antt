-- `unfolding computed` opens every definition of this crate and of those below, for what is proved by computation.
-- Assumes nothing.
use Rattle.basis.specs.Reading.{computed as reading}
use Rattle.text.specs.Tables.Computed.{computed as of-text}
use Rattle.gdp.specs.Tables.Computed.{computed as of-gdp}
use Rattle.panel.specs.Record.{letter_of, record_by, record_of}
use Rattle.panel.specs.Answer.{line_g, line_r, line_t, line_e, line_p, answered}
use Rattle.panel.specs.Panel.{glyphs, dark, card, card_after, answer_to, answers, shown, dot_lines, panel}
use Rattle.panel.specs.Tables.Records.{record_row, line, one, two, bad, letters, hexed, tenned, hex, field_readings, long, three, limits}
use Rattle.panel.specs.Tables.Outputs.{hex_letters, lines, e12, e12_20, r12, after, drawing, stretched, flagged, aimed, tilted, lost, pictureless, tableless, tries, of_tries, played, state_after, expect, still, cards, log, w322, lit, rows}
use Rattle.panel.specs.Tables.Example.{example, example_answers, example_picture, example_dots, examples}
use Rattle.panel.specs.Tables.Readings.{readings}

-- all but the lines of dots
unfoldable pub answering : Unit {0}
unfolding reading of-text of-gdp letter_of record_by record_of line_g line_r line_t line_e line_p answered glyphs dark card card_after answer_to answers shown panel example example_answers example_picture
answering = tt

unfoldable pub computed : Unit {0}
unfolding answering dot_lines record_row line one two bad letters hexed tenned hex field_readings long three limits hex_letters lines e12 e12_20 r12 after drawing stretched flagged aimed tilted lost pictureless tableless tries of_tries played state_after expect still cards log w322 lit rows example_dots examples readings
computed = tt
