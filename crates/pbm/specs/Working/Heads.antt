-- The head of a file as the code reads it.
-- Assumes nothing.
use Rattle.std.specs.Prelude.{◌≡◌, ℕ, true, not, List, [], ◌∷◌, get_or, min}
use Rattle.text.specs.Numbers.{number_from}
use Rattle.parts.specs.Refusal.{lowest}
use Rattle.pbm.specs.Contents.{is_digit, digits, behind_digits, from_width, from_height, from_dots, opens, sized_as}

-- a whole number that a text begins with, 65536 where it is larger, and what is left behind it
pub record Read (s : List ℕ) (n : ℕ) (rest : List ℕ) : Type 0 where
  pub some : is_digit (get_or s 0 0) ≡ true
  pub number : n ≡ min 65536 (number_from 10 0 (digits s))
  pub left : rest ≡ behind_digits s

-- a file that opens: its numbers, 65536 where one is larger, and what is left behind them
pub record Opened (f : List ℕ) (width height : ℕ) (rest : List ℕ) : Type 0 where
  pub opened : opens f ≡ true
  pub is_width : width ≡ min 65536 (number_from 10 0 (digits (from_width f)))
  pub is_height : height ≡ min 65536 (number_from 10 0 (digits (from_height f)))
  pub left : rest ≡ from_dots f

-- what a file's head is refused with that is to be of width w and height h: 10, 11, or 0
unfoldable pub head_number : ℕ → ℕ → List ℕ → ℕ
head_number w h f = lowest ((10, not (opens f)) ∷ (11, not (sized_as w h f)) ∷ [])
