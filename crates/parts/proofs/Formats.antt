-- What every format has: a window whose sides are powers of two, held in the memory that document 01's table gives.
-- Assumes nothing.
use mathlib.Core.Path.{◌≡◌, refl}
use mathlib.Core.Bool.{Bool}
use Prim.Native.Nat.{◌^◌, ◌<◌, ◌≤◌}
use native.Mathlib.Omega.{arith}
use Rattle.picture.specs.Screen.{Screen}
use Rattle.parts.specs.declared.format.Format.{Format}
use Rattle.parts.specs.declared.format.Format.TheVariants.{Ef9366, FmatHigh, FmatLow}
use Rattle.parts.specs.Format.{width, height, window, bytes, frames, width_bits, height_bits}

pub width_power : (f : Format) → width f ≡ 2 ^ width_bits f
unfolding width width_bits
width_power Ef9366 = refl
width_power FmatHigh = refl
width_power FmatLow = refl

pub height_power : (f : Format) → height f ≡ 2 ^ height_bits f
unfolding height height_bits
height_power Ef9366 = refl
height_power FmatHigh = refl
height_power FmatLow = refl

-- the table's last column
pub memory : (bytes Ef9366 ≡ 16384) × (bytes FmatHigh ≡ 32768) × (bytes FmatLow ≡ 8192)
unfolding bytes width height
memory = (refl, refl, refl)

-- every format's window is a screen of the picture memory
pub screen : (f : Format) (cyclic : Bool) → Screen (window f cyclic) (bytes f)
unfolding window bytes width height width_bits height_bits
screen Ef9366 cyclic = record { area = refl; wide = (9, refl); high = (8, refl); small = omega arith }
screen FmatHigh cyclic = record { area = refl; wide = (9, refl); high = (9, refl); small = omega arith }
screen FmatLow cyclic = record { area = refl; wide = (8, refl); high = (8, refl); small = omega arith }

-- a clear takes a frame, or two
pub frames_some : (f : Format) → 0 < frames f
unfolding frames
frames_some Ef9366 = omega arith
frames_some FmatHigh = omega arith
frames_some FmatLow = omega arith

pub frames_most : (f : Format) → frames f ≤ 2
unfolding frames
frames_most Ef9366 = omega arith
frames_most FmatHigh = omega arith
frames_most FmatLow = omega arith
