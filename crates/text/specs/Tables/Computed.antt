-- `unfolding computed` opens every definition of this crate and of those below, for what is proved by computation.
-- Assumes nothing.
use Rattle.basis.specs.Reading.{computed as reading}
use Rattle.text.specs.Pieces.{attached, lines_of, fields_of}
use Rattle.text.specs.Numbers.{digit_value, digit_of, are_digits, is_number, number_from, hex_digit, decimal_by, decimal}
use Rattle.text.specs.Tables.Digits.{counted, tens, sixteens, digits, sevens, spoilt, lengths, values, decimals}
use Rattle.text.specs.Tables.Parted.{inside, pieces_row, of_lines, of_fields, but_for, parted}
use Rattle.text.specs.Tables.Readings.{readings}

unfoldable pub computed : Unit {0}
unfolding reading attached lines_of fields_of digit_value digit_of are_digits is_number number_from hex_digit decimal_by decimal counted tens sixteens digits sevens spoilt lengths values decimals inside pieces_row of_lines of_fields but_for parted readings
computed = tt
