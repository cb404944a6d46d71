-- A line type as the code's table has it.
-- Assumes nothing.
use Rattle.std.specs.Prelude.{ℕ, ◌%◌, ◌≤◌, Bool}
use Rattle.picture.specs.Bit.{bit_at}
use Rattle.picture.specs.Screen.{Power}
use Rattle.motion.specs.declared.line_type.LineType.{LineType}

-- an entry of the table read as a line: bit j of the mask is dot j of the period
unfoldable pub dashed : LineType → ℕ → Bool
dashed t i = bit_at (i % t.period) t.mask

-- what the code relies on: a period is a power of two, and its dots fit the mask
pub record Repeats (t : LineType) : Type 0 where
  pub power : Power t.period
  pub short : t.period ≤ 16
