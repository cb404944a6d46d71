-- The table of readings holds: antt computes it. What a table of numbers cannot hold, the forms of a picture and of a screen, is
-- read at an example.
-- Assumes nothing.
use mathlib.Core.Path.{◌≡◌, refl}
use mathlib.Core.Bool.{true}
use mathlib.Core.List.{[], ◌∷◌}
use Prim.Native.Nat.{ℕ, ◌*◌, ◌^◌, ◌≤◌, ◌<◌}
use native.Mathlib.Omega.{arith}
use Rattle.basis.specs.Reading.{every}
use Rattle.picture.specs.Dot.{Bytes}
use Rattle.picture.specs.Screen.{Power, Screen}
use Rattle.picture.specs.Tables.Dots.{screen}
use Rattle.picture.specs.Tables.Readings.{readings}
use Rattle.picture.specs.Tables.Computed.{computed}

pub readings_hold : every readings ≡ true
unfolding computed
readings_hold = refl

-- a picture of bytes has none of 256 or more
pub bytes_reading : (v : ℕ) → Bytes (7 ∷ v ∷ []) → v < 256
bytes_reading v bytes = bytes 1

-- 512 is the ninth power of two, and a power is one of two
pub power_reading : Power 512 × ((n : ℕ) → Power n → (k : ℕ) × (n ≡ 2 ^ k))
power_reading = ((9, refl), λ n power. power)

-- a window of 512 by 256 is held in 16,384 bytes, and any of 16 by 4 in n bytes only where 64 is 8 × n
pub screen_reading : Screen (screen 512 256 true) 16384
    × ((n : ℕ) → Screen (screen 16 4 true) n → (64 ≡ 8 * n) × (n ≤ 65536) × Power 16 × Power 4)
unfolding computed
screen_reading = (
  record { area = refl; wide = (9, refl); high = (8, refl); small = omega arith },
  λ n held. (held.area, held.small, held.wide, held.high),
)
