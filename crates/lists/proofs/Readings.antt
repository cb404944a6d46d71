-- The table of readings holds: antt computes it.
-- Assumes nothing.
use mathlib.Core.Path.{◌≡◌, refl}
use mathlib.Core.Bool.{true}
use Rattle.basis.specs.Reading.{every}
use Rattle.rules.specs.Sequence.{Idle}
use Rattle.rules.specs.Card.{Card}
use Rattle.lists.specs.Play.{end, alone}
use Rattle.lists.specs.Tables.Readings.{readings}
use Rattle.lists.specs.Tables.Computed.{computed}

pub readings_hold : every readings ≡ true
unfolding computed
readings_hold = refl

-- a list of no item, of which nothing is called, is played alone
pub alone_reading : (c : Card) (i : c.state.work ≡ Idle) → alone (end {c = c} i) ≡ true
alone_reading c i = refl
