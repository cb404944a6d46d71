-- Eight signs, which are a byte of the picture.
-- Assumes nothing.
use Rattle.std.specs.Prelude.{◌≡◌, ℕ, true, false, List, Option, MatchOption}
use denote.Bor.{Bor}
use Rattle.pbm.specs.Contents.{taken, are_dots, weighed}
use Rattle.pbm.specs.Working.Left.{behind}

-- of what is left of a file the next eight signs are dots: the byte that they show, and what is left behind them
pub record Eight (s : List ℕ) (byte : ℕ) (rest : List ℕ) : Type 0 where
  pub dots : are_dots (taken 8 s) ≡ true
  pub shows : byte ≡ weighed 8 (taken 8 s)
  pub left : rest ≡ behind 8 s

-- a search for them: they are not dots, or their byte and what is left
abbrev pub Eights : List ℕ → Option (ℕ × Bor (List ℕ)) → Type 0
Eights s r = MatchOption r (are_dots (taken 8 s) ≡ false) (λ e. Eight s e.0 e.1.now)
