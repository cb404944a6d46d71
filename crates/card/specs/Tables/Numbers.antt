-- Calls by a format's number: 0 is the EF9366, 1 FMAT high, 2 FMAT low, and any other byte is no format's.
-- Assumes nothing.
use Rattle.std.specs.Prelude.{ℕ, ◌+◌, List, [], ◌∷◌, ◌++◌}
use Rattle.basis.specs.Reading.{Reading, joined}
use Rattle.parts.specs.declared.format.Format.{Format}
use Rattle.parts.specs.Format.{format_number}
use Rattle.pbm.specs.Calls.{Outcome}
use Rattle.pbm.specs.Tables.Calls.{outcome}
use Rattle.card.specs.Numbered.{numbered}

-- a call that shows how it was made: the format in its number, the memory that it reads and then the one that it writes
unfoldable pub shows : Format → List ℕ → List ℕ → Outcome
shows f source memory = record { number = 100 + format_number f; value = 9; memory = source ++ (0 ∷ memory) }

unfoldable pub number_readings : List Reading
number_readings =
    -- each of 0, 1 and 2 is its own format; from 3 on the call is not made: 2, value 0, the memory as before
    (
      joined (λ (n : ℕ). outcome (numbered shows n (5 ∷ 6 ∷ []) (7 ∷ 8 ∷ []))) 0 256,
      joined (λ (n : ℕ). (100 + n) ∷ 9 ∷ 5 ∷ 6 ∷ 0 ∷ 7 ∷ 8 ∷ []) 0 3 ++ joined (λ (n : ℕ). 2 ∷ 0 ∷ 7 ∷ 8 ∷ []) 3 253,
    )
    ∷ []
