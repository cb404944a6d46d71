-- `unfolding computed` opens every definition of this crate and of those below, for what is proved by computation.
-- Assumes nothing.
use Rattle.basis.specs.Reading.{computed as reading}
use Rattle.picture.specs.Tables.Computed.{computed as of-picture}
use Rattle.parts.specs.Format.{format_at, format_named, width, height, window, bytes, frames, width_bits, height_bits}
use Rattle.parts.specs.Command.{kind}
use Rattle.parts.specs.Refusal.{lowest, refusal_number}
use Rattle.parts.specs.Address.{address_of}
use Rattle.parts.specs.Tables.Formats.{formatted, seen, formats, numbered, format_numbers, named, kinds, commands, four, refusals, refusal_numbers}
use Rattle.parts.specs.Tables.Addresses.{on_low, on_high, weighed, sums, on_msl, outputs, expected, everywhere, singly, addresses}
use Rattle.parts.specs.Tables.Readings.{readings}

unfoldable pub computed : Unit {0}
unfolding reading of-picture format_at format_named width height window bytes frames width_bits height_bits kind lowest refusal_number address_of formatted seen formats numbered format_numbers named kinds commands four refusals refusal_numbers on_low on_high weighed sums on_msl outputs expected everywhere singly addresses readings
computed = tt
