-- The table of readings holds: antt computes it. Whole files are read for every memory at once, by each number's own format.
-- Assumes nothing.
use mathlib.Core.Path.{◌≡◌, refl}
use Prim.Native.Nat.{ℕ}
use mathlib.Core.Bool.{true}
use mathlib.Core.List.{List}
use Rattle.basis.specs.Reading.{every}
use Rattle.parts.specs.Format.{format_at}
use Rattle.pbm.specs.Calls.{refused, written_out, read_in}
use Rattle.pbm.specs.Tables.Calls.{out_by, in_by}
use Rattle.pbm.proofs.Readings.{write_reading, read_reading}
use Rattle.card.specs.Numbered.{numbered}
use Rattle.card.specs.Tables.Readings.{readings}
use Rattle.card.specs.Tables.Computed.{computed}

pub readings_hold : every readings ≡ true
unfolding computed
readings_hold = refl

-- 0 is the EF9366, 1 FMAT high, 2 FMAT low, and 3 is no format's number
pub numbers_written : (picture buffer : List ℕ)
    → (numbered written_out 0 picture buffer ≡ out_by 512 256 16384 133131 picture buffer)
    × (numbered written_out 1 picture buffer ≡ out_by 512 512 32768 266251 picture buffer)
    × (numbered written_out 2 picture buffer ≡ out_by 256 256 8192 66571 picture buffer)
    × (numbered written_out 3 picture buffer ≡ refused 2 buffer)
unfolding numbered format_at
numbers_written picture buffer = let by = write_reading picture buffer in (by.0, by.1, by.2, refl)

pub numbers_read : (text picture : List ℕ)
    → (numbered read_in 0 text picture ≡ in_by 512 256 16384 131072 text picture)
    × (numbered read_in 1 text picture ≡ in_by 512 512 32768 262144 text picture)
    × (numbered read_in 2 text picture ≡ in_by 256 256 8192 65536 text picture)
    × (numbered read_in 3 text picture ≡ refused 2 picture)
unfolding numbered format_at
numbers_read text picture = let by = read_reading text picture in (by.0, by.1, by.2, refl)
