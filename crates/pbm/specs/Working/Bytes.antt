-- A byte's eight dots as signs.
-- Assumes nothing.
use Rattle.std.specs.Prelude.{ℕ, List, [], ◌∷◌}
use Rattle.picture.specs.Bit.{bit_at}
use Rattle.pbm.specs.File.{sign}

unfoldable pub eight_signs : ℕ → List ℕ
eight_signs v =
    sign (bit_at 0 v)
    ∷ sign (bit_at 1 v)
    ∷ sign (bit_at 2 v)
    ∷ sign (bit_at 3 v)
    ∷ sign (bit_at 4 v)
    ∷ sign (bit_at 5 v)
    ∷ sign (bit_at 6 v)
    ∷ sign (bit_at 7 v)
    ∷ []
