-- The table of readings holds: antt computes it. Whole files are too long for that: what both calls give is read for every picture,
-- buffer and file at once, by each format's own numbers.
-- Assumes nothing.
use mathlib.Core.Path.{◌≡◌, refl, ap, ◌∙◌}
use Prim.Native.Nat.{ℕ, ◌+◌, ◌*◌, ◌/◌}
use mathlib.Core.Bool.{Bool, true, false, cond, not}
use mathlib.Core.List.{List, [], ◌∷◌}
use lib.Dec.{eqb, ltb}
use lib.ListN.{length}
use Rattle.basis.specs.Reading.{every}
use Rattle.parts.specs.declared.format.Format.{Format}
use Rattle.parts.specs.declared.format.Format.TheVariants.{Ef9366, FmatHigh, FmatLow}
use Rattle.parts.specs.Format.{width, height, bytes}
use Rattle.parts.specs.Refusal.{lowest}
use Rattle.pbm.specs.Contents.{opens, sized_as, are_dots}
use Rattle.pbm.specs.Calls.{refused, settled, misfit, file_of, out_number, written_out, signs_for, in_number, read_in}
use Rattle.pbm.specs.Tables.Calls.{out_by, in_by}
use Rattle.pbm.specs.Tables.Readings.{readings}
use Rattle.pbm.specs.Tables.Computed.{computed}
use Rattle.pbm.proofs.Files.{file_length}

pub readings_hold : every readings ≡ true
unfolding computed
readings_hold = refl

-- the lowest number of a call, test by test: whether the picture fits and the buffer is short
out_tests : (fits short : Bool) (n : ℕ) (after before : List ℕ)
    → settled (lowest ((2, not fits) ∷ (9, short) ∷ [])) n after before
    ≡ cond fits (cond short (refused 9 before) (record { number = 0; value = n; memory = after })) (refused 2 before)
unfolding settled lowest
out_tests false short n after before = refl
out_tests true true n after before = refl
out_tests true false n after before = refl

-- whether the picture fits, and the file opens, is of the size and has its dots
in_tests : (fits opened sized dots : Bool) (after before : List ℕ)
    → settled (lowest ((2, not fits) ∷ (10, not opened) ∷ (11, not sized) ∷ (12, not dots) ∷ [])) 0 after before
    ≡ cond fits
    (cond opened
    (cond sized (cond dots (record { number = 0; value = 0; memory = after }) (refused 12 before)) (refused 11 before))
    (refused 10 before))
    (refused 2 before)
unfolding settled lowest
in_tests false opened sized dots after before = refl
in_tests true false sized dots after before = refl
in_tests true true false dots after before = refl
in_tests true true true false after before = refl
in_tests true true true true after before = refl

-- so each call goes by the numbers of its format
write_by : (f : Format) (picture buffer : List ℕ)
    → written_out f picture buffer ≡ out_by (width f) (height f) (bytes f) (11 + height f * (65 * (width f / 64))) picture buffer
unfolding written_out out_number misfit file_of out_by
write_by f picture buffer =
    let n = length (file_of f picture) in
    out_tests (eqb (length picture) (bytes f)) (ltb (length buffer) n) n _ buffer
    ∙ ap (λ (m : ℕ). out_by (width f) (height f) (bytes f) m picture buffer) (file_length f picture)

read_by : (f : Format) (text picture : List ℕ)
    → read_in f text picture ≡ in_by (width f) (height f) (bytes f) (width f * height f) text picture
unfolding read_in in_number misfit signs_for in_by
read_by f text picture =
    in_tests (eqb (length picture) (bytes f)) (opens text) (sized_as (width f) (height f) text) (are_dots (signs_for f text)) _ picture

-- writing: dots a line, lines, bytes, and the bytes of the file
pub write_reading : (picture buffer : List ℕ)
    → (written_out Ef9366 picture buffer ≡ out_by 512 256 16384 133131 picture buffer)
    × (written_out FmatHigh picture buffer ≡ out_by 512 512 32768 266251 picture buffer)
    × (written_out FmatLow picture buffer ≡ out_by 256 256 8192 66571 picture buffer)
unfolding width height bytes
write_reading picture buffer = (write_by Ef9366 picture buffer, write_by FmatHigh picture buffer, write_by FmatLow picture buffer)

-- reading: dots a line, lines, bytes, and as many dots are looked at and no other
pub read_reading : (text picture : List ℕ)
    → (read_in Ef9366 text picture ≡ in_by 512 256 16384 131072 text picture)
    × (read_in FmatHigh text picture ≡ in_by 512 512 32768 262144 text picture)
    × (read_in FmatLow text picture ≡ in_by 256 256 8192 65536 text picture)
unfolding width height bytes
read_reading text picture = (read_by Ef9366 text picture, read_by FmatHigh text picture, read_by FmatLow text picture)
