-- Numbers as text: digits of a base, read with the highest first; hex digits and decimal numbers, written.
-- Assumes nothing.
use Rattle.std.specs.Prelude.{ℕ, zero, suc, ◌+◌, ◌-◌, ◌*◌, ◌/◌, ◌%◌, Bool, true, cond, ◌&&◌, List, [], ◌∷◌, ◌++◌, Option, Some, None, ltb, leb, length}

-- the value of a digit, 0 to 9 and A to F, capitals; any other byte is no digit of any base, and counts 16
unfoldable pub digit_value : ℕ → ℕ
digit_value b = cond (leb 48 b && leb b 57) (b - 48) (cond (leb 65 b && leb b 70) (b - 55) 16)

-- a byte's value as a digit of a base, where it is one
unfoldable pub digit_of : ℕ → ℕ → Option ℕ
digit_of base b = cond (ltb (digit_value b) base) (Some (digit_value b)) None

unfoldable pub are_digits : ℕ → List ℕ → Bool
are_digits base [] = true
are_digits base (b ∷ bs) = ltb (digit_value b) base && are_digits base bs

-- a field of at least one digit of the base and at most k; decimal is base 10, hex is base 16
unfoldable pub is_number : ℕ → ℕ → List ℕ → Bool
is_number base k f = leb 1 (length f) && leb (length f) k && are_digits base f

-- its number, the highest digit first: n is what stands before
unfoldable pub number_from : ℕ → ℕ → List ℕ → ℕ
number_from base n [] = n
number_from base n (b ∷ bs) = number_from base (n * base + digit_value b) bs

-- a digit as text: one hex digit, a capital from 10 on
unfoldable pub hex_digit : ℕ → ℕ
hex_digit d = cond (ltb d 10) (48 + d) (55 + d)

-- a number in decimal, without leading zeros: its last k digits at most
unfoldable pub decimal_by : ℕ → ℕ → List ℕ
decimal_by zero n = []
decimal_by (suc k) n = cond (ltb n 10) ((48 + n) ∷ []) (decimal_by k (n / 10) ++ ((48 + n % 10) ∷ []))

-- all of them: n has no more than n + 1
unfoldable pub decimal : ℕ → List ℕ
decimal n = decimal_by (suc n) n
