-- A field taken for a number: whether it is one, and which.
-- Assumes nothing.
use Rattle.std.specs.Prelude.{◌≡◌, ℕ, ◌^◌, ◌<◌, Bool, cond, List}
use Rattle.text.specs.Numbers.{is_number, number_from}

pub record Taken (base most : ℕ) (f : List ℕ) (ok : Bool) (n : ℕ) : Type 0 where
  pub is : ok ≡ is_number base most f
  pub number : n ≡ cond ok (number_from base 0 f) 0
  pub small : n < base ^ most
