-- The four line types: the dots of one period, which repeats from dot 0 of each vector.
-- Assumes nothing.
use Rattle.std.specs.Prelude.{ℕ, zero, suc, ◌%◌, Bool, true, false, List, ◌++◌, length, get_or, replicate}

abbrev pub on : ℕ → List Bool
on n = replicate n true

abbrev pub off : ℕ → List Bool
off n = replicate n false

-- 0 all on; 1 two on, two off; 2 four on, four off; 3 ten on, two off, two on, two off
abbrev pub period : ℕ → List Bool
period zero = on 1
period (suc zero) = on 2 ++ off 2
period (suc (suc zero)) = on 4 ++ off 4
period (suc (suc (suc t))) = on 10 ++ (off 2 ++ (on 2 ++ off 2))

-- dot i of a vector is on, by the line type in bits 0 and 1 of CTRL2
unfoldable pub line_on : ℕ → ℕ → Bool
line_on ctrl2 i = get_or (period (ctrl2 % 4)) (i % length (period (ctrl2 % 4))) true
