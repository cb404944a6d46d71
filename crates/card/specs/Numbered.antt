-- The calls that take a format cross to C with its number.
-- Assumes nothing.
use Rattle.std.specs.Prelude.{ℕ, cond, List, ltb}
use Rattle.parts.specs.declared.format.Format.{Format}
use Rattle.parts.specs.Format.{format_at}
use Rattle.pbm.specs.Calls.{Outcome, refused}

-- a call with the format of number n, lent a memory that it reads and one that it may write. A number of no format is refused
-- with 2: no picture is of its length
unfoldable pub numbered : (Format → List ℕ → List ℕ → Outcome) → ℕ → List ℕ → List ℕ → Outcome
numbered call n source memory = cond (ltb n 3) (call (format_at n) source memory) (refused 2 memory)
