-- The table of readings holds: antt computes it.
-- Assumes nothing.
use mathlib.Core.Path.{◌≡◌, refl}
use mathlib.Core.Bool.{true}
use Rattle.basis.specs.Reading.{every}
use Rattle.parts.specs.Tables.Readings.{readings}
use Rattle.parts.specs.Tables.Computed.{computed}

pub readings_hold : every readings ≡ true
unfolding computed
readings_hold = refl
