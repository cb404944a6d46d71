-- `unfolding computed` opens every definition of this crate and of those below, for what is proved by computation.
-- Assumes nothing.
use Rattle.basis.specs.Reading.{computed as reading}
use Rattle.pbm.specs.Tables.Computed.{computed as of-pbm}
use Rattle.gdp.specs.Tables.Computed.{computed as of-gdp}
use Rattle.card.specs.Numbered.{numbered}
use Rattle.card.specs.Tables.Numbers.{shows, number_readings}
use Rattle.card.specs.Tables.Readings.{readings}

unfoldable pub computed : Unit {0}
unfolding reading of-pbm of-gdp numbered shows number_readings readings
computed = tt
