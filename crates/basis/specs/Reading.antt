-- Readings: worked examples of definitions, each beside what the paper says. A table of them holds where every row's two sides
-- are the same numbers.
-- Assumes nothing.
use Rattle.std.specs.Prelude.{ℕ, zero, suc, Bool, true, false, ◌&&◌, List, [], ◌∷◌, ◌++◌, eqb}

-- a row: what the definitions give, and what the paper says
abbrev pub Reading : Type 0
Reading = List ℕ × List ℕ

unfoldable pub same : List ℕ → List ℕ → Bool
same [] [] = true
same [] (y ∷ ys) = false
same (x ∷ xs) [] = false
same (x ∷ xs) (y ∷ ys) = eqb x y && same xs ys

unfoldable pub every : List Reading → Bool
every [] = true
every (r ∷ rs) = same r.0 r.1 && every rs

-- f of the k numbers from i on, as numbers, as lists put together, as rows
unfoldable pub each : (ℕ → ℕ) → ℕ → ℕ → List ℕ
each f i zero = []
each f i (suc k) = f i ∷ each f (suc i) k

unfoldable pub joined : (ℕ → List ℕ) → ℕ → ℕ → List ℕ
joined f i zero = []
joined f i (suc k) = f i ++ joined f (suc i) k

unfoldable pub rows : (ℕ → List Reading) → ℕ → ℕ → List Reading
rows f i zero = []
rows f i (suc k) = f i ++ rows f (suc i) k

-- a test as a number
unfoldable pub told : Bool → ℕ
told true = 1
told false = 0

-- `unfolding computed` opens all of them
unfoldable pub computed : Unit {0}
unfolding same every each joined rows told
computed = tt
