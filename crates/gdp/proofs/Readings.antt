-- The table of readings holds: antt computes it. So do the readings of the form that the calls' statements have.
-- Assumes nothing.
use mathlib.Core.Path.{◌≡◌, refl}
use mathlib.Core.Bool.{true, false}
use mathlib.Core.List.{[], ◌∷◌}
use lib.ListN.{replicate}
use Rattle.basis.specs.Reading.{every}
use Rattle.gdp.specs.Calls.{Grants, Blanks}
use Rattle.gdp.specs.Tables.Rows.{bytes}
use Rattle.gdp.specs.Tables.Readings.{readings}
use Rattle.gdp.specs.Tables.Computed.{computed}

pub readings_hold : every readings ≡ true
unfolding computed
readings_hold = refl

-- three of the six cycles of vector 10, DELTAX 5, the pen down
pub grant_reads : Grants (bytes 0 0 0 3 0 0x11 5 0 0 0 0x10 8 0) 3 (replicate 16384 0) (replicate 480 0)
    (record { number = 0; value = 3; state = bytes 3 0 3 3 0 0x11 5 0 0 0 0x10 8 0 })
    (7 ∷ replicate 16383 0)
unfolding computed
grant_reads = record { answers = refl; memories = refl }

-- no cycle: nothing is used, nothing changes
pub grant_none : Grants (bytes 0 0 0 3 0 0x11 5 0 0 0 0x10 8 0) 0 (replicate 16384 0) (replicate 480 0)
    (record { number = 0; value = 0; state = bytes 0 0 0 3 0 0x11 5 0 0 0 0x10 8 0 })
    (replicate 16384 0)
unfolding computed
grant_none = record { answers = refl; memories = refl }

-- 32,768 cycles: all six, and the end
pub grant_ends : Grants (bytes 0 0 0 3 0 0x11 5 0 0 0 0x10 8 0) 32768 (replicate 16384 0) (replicate 480 0)
    (record { number = 0; value = 6; state = bytes 5 0 0 3 0 0x11 5 0 0 0 0 0 0 })
    (63 ∷ replicate 16383 0)
unfolding computed
grant_ends = record { answers = refl; memories = refl }

-- a picture of the table's length: 2; bytes that name nothing: 1; each as it came
pub grant_refused : Grants (bytes 0 0 0 3 0 0x11 5 0 0 0 0x10 8 0) 3 (replicate 480 9) (replicate 16384 0)
    (record { number = 2; value = 0; state = bytes 0 0 0 3 0 0x11 5 0 0 0 0x10 8 0 })
    (replicate 480 9)
unfolding computed
grant_refused = record { answers = refl; memories = refl }

pub grant_unnamed : Grants (bytes 0 0 0 3 0 0x11 5 0 0 0 0x10 15 0) 3 (replicate 8192 0) (replicate 480 0)
    (record { number = 1; value = 0; state = bytes 0 0 0 3 0 0x11 5 0 0 0 0x10 15 0 })
    (replicate 8192 0)
unfolding computed
grant_unnamed = record { answers = refl; memories = refl }

-- a pen sequence that has no name
pub grant_unnamed_pen : Grants (bytes 0 0 0 3 0 0x11 5 0 0 0 0x10 8 12) 3 (replicate 16384 0) (replicate 480 0)
    (record { number = 1; value = 0; state = bytes 0 0 0 3 0 0x11 5 0 0 0 0x10 8 12 })
    (replicate 16384 0)
unfolding computed
grant_unnamed_pen = record { answers = refl; memories = refl }

-- the VB rise that ends the frame of 0C, with the pen; the present level; a wrong picture; bytes that name nothing
pub vb_reads : Blanks (bytes 0 0 0 2 0 0x11 0 0 0 0 0 112 0) true (replicate 16384 0)
    (record { number = 0; value = 0; state = bytes 0 0 0 2 0 0x11 0 0 0 0 0 0 2 })
    (replicate 16384 255)
unfolding computed
vb_reads = record { answers = refl; memories = refl }

pub vb_stays : Blanks (bytes 0 0 0 2 0 0x11 0 0 0 0 0 112 0) false (replicate 16384 0)
    (record { number = 0; value = 0; state = bytes 0 0 0 2 0 0x11 0 0 0 0 0 112 0 })
    (replicate 16384 0)
unfolding computed
vb_stays = record { answers = refl; memories = refl }

pub vb_refused : Blanks (bytes 0 0 0 2 0 0x11 0 0 0 0 7 112 0) true (1 ∷ [])
    (record { number = 2; value = 0; state = bytes 0 0 0 2 0 0x11 0 0 0 0 7 112 0 })
    (1 ∷ [])
unfolding computed
vb_refused = record { answers = refl; memories = refl }

pub vb_unnamed : Blanks (bytes 0 0 0 2 0 0x11 0 0 0 0 0 118 0) true (replicate 8192 0)
    (record { number = 1; value = 0; state = bytes 0 0 0 2 0 0x11 0 0 0 0 0 118 0 })
    (replicate 8192 0)
unfolding computed
vb_unnamed = record { answers = refl; memories = refl }
