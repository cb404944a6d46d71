-- The three tables of readings hold: antt computes them, events through the calls, pictures whole.
-- Assumes nothing.
use mathlib.Core.Path.{◌≡◌, refl}
use mathlib.Core.Bool.{true}
use Rattle.basis.specs.Reading.{every}
use Rattle.rules.specs.Tables.Readings.{readings}
use Rattle.rules.specs.Tables.MoreReadings.{more_readings}
use Rattle.rules.specs.Tables.FineReadings.{fine_readings}
use Rattle.rules.specs.Tables.Computed.{computed}

-- the readings marked [P]
pub readings_hold : every readings ≡ true
unfolding computed
readings_hold = refl

-- the second table
pub more_readings_hold : every more_readings ≡ true
unfolding computed
more_readings_hold = refl

-- the third table
pub fine_readings_hold : every fine_readings ≡ true
unfolding computed
fine_readings_hold = refl
