-- Digits and numbers as text, read and written: 48 to 57 are 0 to 9, 65 to 70 are A to F.
-- Assumes nothing.
use Rattle.std.specs.Prelude.{ℕ, suc, ◌+◌, ◌-◌, ◌*◌, ◌/◌, ◌%◌, List, [], ◌∷◌, ◌++◌, replicate, unwrap_or}
use Rattle.basis.specs.Reading.{Reading, each, joined, told}
use Rattle.text.specs.Numbers.{digit_value, digit_of, is_number, number_from, hex_digit, decimal_by, decimal}

-- the k numbers from i on
unfoldable pub counted : ℕ → ℕ → List ℕ
counted i k = each (λ (n : ℕ). n) i k

-- Digits --------------------------------------------------------------------------------------------------------------

-- for each byte: which are digits of base 10 and of base 16
unfoldable pub tens : List ℕ
tens = replicate 48 0 ++ (replicate 10 1 ++ replicate 198 0)

unfoldable pub sixteens : List ℕ
sixteens = replicate 48 0 ++ (replicate 10 1 ++ (replicate 7 0 ++ (replicate 6 1 ++ replicate 185 0)))

unfoldable pub digits : List Reading
digits =
    -- the values: capitals only, any other byte counts 16
    (
      each digit_value 0 300,
      replicate 48 16 ++ (counted 0 10 ++ (replicate 7 16 ++ (counted 10 6 ++ replicate 229 16))),
    )
    -- of base 10 and of base 16 alone, and 16 of any other byte
    ∷ (each (λ (b : ℕ). unwrap_or (digit_of 10 b) 16) 0 300, replicate 48 16 ++ (counted 0 10 ++ replicate 242 16))
    ∷ (
      each (λ (b : ℕ). unwrap_or (digit_of 16 b) 16) 0 300,
      replicate 48 16 ++ (counted 0 10 ++ (replicate 7 16 ++ (counted 10 6 ++ replicate 229 16))),
    )
    -- written: 0 to 9, A to F
    ∷ (each hex_digit 0 16, 48 ∷ 49 ∷ 50 ∷ 51 ∷ 52 ∷ 53 ∷ 54 ∷ 55 ∷ 56 ∷ 57 ∷ 65 ∷ 66 ∷ 67 ∷ 68 ∷ 69 ∷ 70 ∷ [])
    ∷ (each hex_digit 16 240, counted 71 240)
    -- each byte alone, before a digit, behind one and between two: a number of base 10, of base 16, of base 2
    ∷ (each (λ (b : ℕ). told (is_number 10 1 (b ∷ []))) 0 256, tens)
    ∷ (each (λ (b : ℕ). told (is_number 10 3 (b ∷ 57 ∷ []))) 0 256, tens)
    ∷ (each (λ (b : ℕ). told (is_number 10 3 (48 ∷ b ∷ []))) 0 256, tens)
    ∷ (each (λ (b : ℕ). told (is_number 10 5 (49 ∷ b ∷ 50 ∷ []))) 0 256, tens)
    ∷ (each (λ (b : ℕ). told (is_number 16 1 (b ∷ []))) 0 256, sixteens)
    ∷ (each (λ (b : ℕ). told (is_number 16 2 (b ∷ 70 ∷ []))) 0 256, sixteens)
    ∷ (each (λ (b : ℕ). told (is_number 16 2 (48 ∷ b ∷ []))) 0 256, sixteens)
    ∷ (each (λ (b : ℕ). told (is_number 16 4 (65 ∷ b ∷ 66 ∷ []))) 0 256, sixteens)
    ∷ (each (λ (b : ℕ). told (is_number 2 1 (b ∷ []))) 0 256, replicate 48 0 ++ (1 ∷ 1 ∷ replicate 206 0))
    -- of no base from 0 to 16 is 47, and 70, F, is of base 16 alone; 57, 9, of base 10 and more
    ∷ (each (λ (n : ℕ). told (is_number n 1 (47 ∷ []))) 0 17, replicate 17 0)
    ∷ (each (λ (n : ℕ). told (is_number n 1 (70 ∷ []))) 0 17, replicate 16 0 ++ (1 ∷ []))
    ∷ (each (λ (n : ℕ). told (is_number n 1 (57 ∷ []))) 0 17, replicate 10 0 ++ replicate 7 1)
    ∷ []

-- Lengths -------------------------------------------------------------------------------------------------------------

-- a field of n sevens, for at most k digits: 1 where 1 ≤ n ≤ k
unfoldable pub sevens : ℕ → ℕ → List ℕ
sevens base k = each (λ (n : ℕ). told (is_number base k (replicate n 55))) 0 8

-- the same with a byte that is no digit at the end, and at the start
unfoldable pub spoilt : ℕ → List ℕ
spoilt k = each (λ (n : ℕ). told (is_number 16 k (replicate n 55 ++ (71 ∷ []))) + told (is_number 10 k (58 ∷ replicate n 55))) 0 8

unfoldable pub lengths : List Reading
lengths =
    (joined (sevens 10) 0 7, replicate 8 0 ++ joined (λ (k : ℕ). 0 ∷ (replicate (suc k) 1 ++ replicate (6 - k) 0)) 0 6)
    ∷ (joined (sevens 16) 0 7, replicate 8 0 ++ joined (λ (k : ℕ). 0 ∷ (replicate (suc k) 1 ++ replicate (6 - k) 0)) 0 6)
    ∷ (joined spoilt 0 9, replicate 72 0)
    ∷ []

-- Values --------------------------------------------------------------------------------------------------------------

unfoldable pub values : List Reading
values =
    -- every text of three decimal digits; of two hex digits
    (
      joined (λ (h : ℕ). joined (λ (t : ℕ). each (λ (u : ℕ). number_from 10 0 ((48 + h) ∷ (48 + t) ∷ (48 + u) ∷ [])) 0 10) 0 10) 0 10,
      counted 0 1000,
    )
    ∷ (
      joined (λ (h : ℕ). each (λ (u : ℕ). number_from 16 0 ((48 + h) ∷ (48 + u) ∷ [])) 0 10
          ++ each (λ (u : ℕ). number_from 16 0 ((48 + h) ∷ u ∷ [])) 65 6) 0 10
          ++ joined (λ (h : ℕ). each (λ (u : ℕ). number_from 16 0 (h ∷ (48 + u) ∷ [])) 0 10
          ++ each (λ (u : ℕ). number_from 16 0 (h ∷ u ∷ [])) 65 6) 65 6,
      counted 0 256,
    )
    -- none; one; 65,535, 99,999, 00007; what stands before; other bases; a byte that is no digit counts 16
    ∷ (
      number_from 10 0 []
          ∷ number_from 16 9 []
          ∷ number_from 10 0 (54 ∷ 53 ∷ 53 ∷ 51 ∷ 53 ∷ [])
          ∷ number_from 10 0 (57 ∷ 57 ∷ 57 ∷ 57 ∷ 57 ∷ [])
          ∷ number_from 10 0 (48 ∷ 48 ∷ 48 ∷ 48 ∷ 55 ∷ [])
          ∷ number_from 10 12 (51 ∷ 52 ∷ [])
          ∷ number_from 16 1 (70 ∷ 65 ∷ [])
          ∷ number_from 2 0 (49 ∷ 48 ∷ 49 ∷ [])
          ∷ number_from 10 3 (32 ∷ [])
          ∷ [],
      0 ∷ 9 ∷ 65535 ∷ 99999 ∷ 7 ∷ 1234 ∷ 506 ∷ 5 ∷ 46 ∷ [],
    )
    ∷ []

-- Written in decimal --------------------------------------------------------------------------------------------------

unfoldable pub decimals : List Reading
decimals =
    -- one digit, two, three, no leading zeros
    (joined decimal 0 10, counted 48 10)
    ∷ (joined decimal 10 90, joined (λ (t : ℕ). joined (λ (u : ℕ). (48 + t) ∷ (48 + u) ∷ []) 0 10) 1 9)
    ∷ (joined decimal 100 100, joined (λ (t : ℕ). joined (λ (u : ℕ). 49 ∷ (48 + t) ∷ (48 + u) ∷ []) 0 10) 0 10)
    ∷ (joined (λ (h : ℕ). decimal (100 * h + 90)) 1 9, joined (λ (h : ℕ). (48 + h) ∷ 57 ∷ 48 ∷ []) 1 9)
    -- 1000, 9999, 10000, 65535, 131071
    ∷ (
      decimal 1000 ++ (decimal 9999 ++ (decimal 10000 ++ (decimal 65535 ++ decimal 131071))),
      (49 ∷ 48 ∷ 48 ∷ 48 ∷ []) ++ ((57 ∷ 57 ∷ 57 ∷ 57 ∷ []) ++ ((49 ∷ 48 ∷ 48 ∷ 48 ∷ 48 ∷ [])
          ++ ((54 ∷ 53 ∷ 53 ∷ 51 ∷ 53 ∷ []) ++ (49 ∷ 51 ∷ 49 ∷ 48 ∷ 55 ∷ 49 ∷ [])))),
    )
    -- 10001, 20300, 40040, 65500
    ∷ (
      decimal 10001 ++ (decimal 20300 ++ (decimal 40040 ++ decimal 65500)),
      (49 ∷ 48 ∷ 48 ∷ 48 ∷ 49 ∷ []) ++ ((50 ∷ 48 ∷ 51 ∷ 48 ∷ 48 ∷ []) ++ ((52 ∷ 48 ∷ 48 ∷ 52 ∷ 48 ∷ []) ++ (54 ∷ 53 ∷ 53 ∷ 48 ∷ 48 ∷ []))),
    )
    -- all from 200 to 511; 65,536, the most lines that a log has; 12,288
    ∷ (joined decimal 200 312, joined (λ (n : ℕ). (48 + n / 100) ∷ (48 + n / 10 % 10) ∷ (48 + n % 10) ∷ []) 200 312)
    ∷ (decimal 65536 ++ decimal 12288, 54 ∷ 53 ∷ 53 ∷ 51 ∷ 54 ∷ 49 ∷ 50 ∷ 50 ∷ 56 ∷ 56 ∷ [])
    -- the last k digits at most: of 567 none, 7, 67, 567, 567; of 5 none, 5, 5; of 500 none, 0, 00, 500
    ∷ (joined (λ (k : ℕ). decimal_by k 567) 0 5, 55 ∷ 54 ∷ 55 ∷ 53 ∷ 54 ∷ 55 ∷ 53 ∷ 54 ∷ 55 ∷ [])
    ∷ (joined (λ (k : ℕ). decimal_by k 5) 0 3, 53 ∷ 53 ∷ [])
    ∷ (joined (λ (k : ℕ). decimal_by k 500) 0 4, 48 ∷ 48 ∷ 48 ∷ 53 ∷ 48 ∷ 48 ∷ [])
    ∷ []
