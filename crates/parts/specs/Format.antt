-- The formats: EF9366; EF9365 with FMAT high and with FMAT low.
-- Assumes nothing.
use Rattle.std.specs.Prelude.{ℕ, ◌*◌, ◌/◌, Bool, cond, eqb, ltb, Result, Ok, Err}
use Rattle.picture.specs.declared.screen.Window.{Window}
use Rattle.parts.specs.declared.format.Format.{Format}
use Rattle.parts.specs.declared.format.Format.TheVariants.{Ef9366, FmatHigh, FmatLow}
use Rattle.parts.specs.declared.refusal.Refusal.{Refusal}
use Rattle.parts.specs.declared.refusal.Refusal.TheVariants.{BadState}

-- the format's number, and the format of a number
abbrev pub format_number : Format → ℕ
format_number Ef9366 = 0
format_number FmatHigh = 1
format_number FmatLow = 2

unfoldable pub format_at : ℕ → Format
format_at n = cond (eqb n 0) Ef9366 (cond (eqb n 1) FmatHigh FmatLow)

-- a number from 3 on is no format's
unfoldable pub format_named : ℕ → Result Format Refusal
format_named n = cond (ltb n 3) (Ok (format_at n)) (Err BadState)

unfoldable pub width : Format → ℕ
width Ef9366 = 512
width FmatHigh = 512
width FmatLow = 256

unfoldable pub height : Format → ℕ
height Ef9366 = 256
height FmatHigh = 512
height FmatLow = 256

-- the window, on a cyclic screen or not
unfoldable pub window : Format → Bool → Window
window f cyclic = record { width = width f; height = height f; cyclic = cyclic }

-- the picture's memory has a bit for each dot
unfoldable pub bytes : Format → ℕ
bytes f = width f * height f / 8

-- the frames that 04, 06, 07 and 0C take: two where FMAT is high
unfoldable pub frames : Format → ℕ
frames Ef9366 = 1
frames FmatHigh = 2
frames FmatLow = 1

-- how many bits of X and of Y lie in the window
unfoldable pub width_bits : Format → ℕ
width_bits Ef9366 = 9
width_bits FmatHigh = 9
width_bits FmatLow = 8

unfoldable pub height_bits : Format → ℕ
height_bits Ef9366 = 8
height_bits FmatHigh = 9
height_bits FmatLow = 8
