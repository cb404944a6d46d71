-- The table of readings holds: antt computes it. What a run leaves is read at examples.
-- Assumes nothing.
use mathlib.Core.Path.{◌≡◌, refl}
use mathlib.Core.Bool.{true, false}
use mathlib.Core.List.{List, ◌∷◌}
use Prim.Native.Nat.{ℕ}
use lib.ListN.{replicate}
use Rattle.basis.specs.Reading.{every}
use Rattle.motion.specs.declared.position.Spot.{Spot}
use Rattle.motion.specs.Position.{spot}
use Rattle.drawing.specs.Run.{Ran}
use Rattle.drawing.specs.Tables.Runs.{flat, turned, tip}
use Rattle.drawing.specs.Tables.Figures.{glyph}
use Rattle.drawing.specs.Tables.Readings.{readings}
use Rattle.drawing.specs.Tables.Computed.{computed}

pub readings_hold : every readings ≡ true
unfolding computed
readings_hold = refl

-- from (2,1), the place of cycle 2 of the vector from (0,0), two cycles light (2,1) and (3,1) and rest on (4,2); nothing else
-- is a run of them
pub ran_reading : (s : Spot) (q : List ℕ)
    → Ran (tip true true false) flat glyph (record { at = spot 2 1; from = 2; count = 2 }) s (replicate 16 0) q
    → (s ≡ spot 4 2) × (q ≡ 0 ∷ 0 ∷ 12 ∷ replicate 13 0)
unfolding computed
ran_reading s q ran = (ran.rests, ran.picture)

pub ran_holds : Ran (tip true true false) flat glyph (record { at = spot 2 1; from = 2; count = 2 }) (spot 4 2) (replicate 16 0) (0 ∷ 0 ∷ 12 ∷ replicate 13 0)
unfolding computed
ran_holds = record { rests = refl; picture = refl }

-- the eraser darkens: the last three cycles of a body turned about (9,0), whose only dot is that of its second column's second row
pub erased_reading : (s : Spot) (q : List ℕ)
    → Ran (tip true false false) turned glyph (record { at = spot 9 1; from = 3; count = 3 }) s (replicate 16 255) q
    → (s ≡ spot 9 2) × (q ≡ 255 ∷ 255 ∷ 255 ∷ 254 ∷ replicate 12 255)
unfolding computed
erased_reading s q ran = (ran.rests, ran.picture)
