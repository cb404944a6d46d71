-- A text cut at a byte.
-- Assumes nothing.
use Rattle.std.specs.Prelude.{◌≡◌, ℕ, ◌<◌, List, ◌∷◌, ◌++◌, length, get_or, Option, MatchOption}
use Rattle.std.specs.Borrow.{Bor}

-- the text is `first`, in which no byte is b, alone, or with b and `rest` behind it
pub record Cut (b : ℕ) (text first : List ℕ) (rest : Option (Bor (List ℕ))) : Type 0 where
  pub none : (k : ℕ) → k < length first → get_or first k 0 ≡ b → ⊥
  pub parts : MatchOption rest (text ≡ first) (λ r. text ≡ first ++ (b ∷ r.now))
