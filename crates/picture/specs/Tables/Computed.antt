-- `unfolding computed` opens every definition of this crate and of those below, for what is proved by computation.
-- Assumes nothing.
use Rattle.basis.specs.Reading.{computed as reading}
use Rattle.picture.specs.Dot.{dot_at, set_dot}
use Rattle.picture.specs.Screen.{place}
use Rattle.picture.specs.Tables.Bits.{again, from, bit_row, low_row, high_row, bit_rows, bits}
use Rattle.picture.specs.Tables.Dots.{single, second, third, flat, weights, gaps, mixed, dots, screen, dot_or, lines, edges, along, places}
use Rattle.picture.specs.Tables.Readings.{readings}

unfoldable pub computed : Unit {0}
unfolding reading dot_at set_dot place again from bit_row low_row high_row bit_rows bits single second third flat weights gaps mixed dots screen dot_or lines edges along places readings
computed = tt
