-- The refusal numbers: the lowest that applies is given, 0 where none does.
-- Assumes nothing.
use Rattle.std.specs.Prelude.{ℕ, Bool, cond, List, [], ◌∷◌}
use Rattle.parts.specs.declared.refusal.Refusal.{Refusal}
use Rattle.parts.specs.declared.refusal.Refusal.TheVariants.{BadState, BadPicture, BadTable, BadAddress, ReadOnly, Busy, OffScreen, ShortBuffer, NoPbm, OtherSize, BadDots, NoRecord, LongLog}

-- a call's own cases, each with its number, in the order of the numbers
abbrev pub Cases : Type 0
Cases = List (ℕ × Bool)

unfoldable pub lowest : Cases → ℕ
lowest [] = 0
lowest (c ∷ cs) = cond c.1 c.0 (lowest cs)

-- each refusal's number; 7 is given by none
unfoldable pub refusal_number : Refusal → ℕ
refusal_number BadState = 1
refusal_number BadPicture = 2
refusal_number BadTable = 3
refusal_number BadAddress = 4
refusal_number ReadOnly = 5
refusal_number Busy = 6
refusal_number OffScreen = 8
refusal_number ShortBuffer = 9
refusal_number NoPbm = 10
refusal_number OtherSize = 11
refusal_number BadDots = 12
refusal_number NoRecord = 20
refusal_number LongLog = 21
