-- All 256 commands on idle states of every kind; the whole row after each.
-- Assumes nothing.
use Rattle.std.specs.Prelude.{ℕ, ◌+◌, ◌*◌, max, List, [], ◌∷◌, ◌++◌, get_or, replicate}
use Rattle.basis.specs.Reading.{Reading, each, joined, rows}
use Rattle.rules.specs.Tables.Rows.{nth, but, writes, gives, rich}

-- CTRL1 by its bits 0, 1 and 6, the others being rest
unfoldable pub ctrl1 : ℕ → ℕ → ℕ → ℕ → ℕ
ctrl1 rest b0 b1 b6 = rest + b0 + 2 * b1 + 64 * b6

-- a row with that CTRL1, a pen sequence, a VB level and ready's flag
unfoldable pub at : ℕ → ℕ → ℕ → ℕ → List ℕ
at c1 pen vb flag = but 1 c1 (but 15 pen (but 16 vb (but 19 flag rich)))

-- a clear waits for its first frame
unfoldable pub waits : ℕ → List ℕ → List ℕ
waits fill r = but 10 2 (but 13 fill r)

-- what 00 to 0F lead to from such a row
unfoldable pub begins : ℕ → ℕ → ℕ → ℕ → ℕ → ℕ → ℕ → List (List ℕ)
begins rest b0 b1 b6 pen vb flag =
    let same = at (ctrl1 rest b0 b1 b6) pen vb flag in
    let risen = at (ctrl1 rest b0 b1 b6) pen vb (max flag b6) in
    at (ctrl1 rest b0 1 b6) pen vb (max flag b6)
    ∷ at (ctrl1 rest b0 0 b6) pen vb (max flag b6)
    ∷ at (ctrl1 rest 1 b1 b6) pen vb (max flag b6)
    ∷ at (ctrl1 rest 0 b1 b6) pen vb (max flag b6)
    ∷ waits 0 same
    ∷ but 6 0 (but 7 0 risen)
    ∷ waits 0 (but 6 0 (but 7 0 same))
    ∷ waits 0 (0 ∷ 0 ∷ 0 ∷ 0x11 ∷ 0 ∷ 0 ∷ 0 ∷ 0 ∷ 0xF5 ∷ 0xD9 ∷ 0 ∷ 0 ∷ 0 ∷ 0 ∷ 0 ∷ pen ∷ vb ∷ 0 ∷ 0 ∷ flag ∷ [])
    ∷ but 15 1 risen
    ∷ but 15 1 risen
    ∷ but 10 1 (but 11 0x0A same)
    ∷ but 10 1 (but 11 0x0B same)
    ∷ waits 1 same
    ∷ but 6 0 risen
    ∷ but 7 0 risen
    ∷ but 10 1 (but 11 0x0F same)
    ∷ []

unfoldable pub sixteen_of : ℕ → ℕ → ℕ → ℕ → ℕ → ℕ → ℕ → List Reading
sixteen_of rest b0 b1 b6 pen vb flag = (
  joined (λ c. writes (at (ctrl1 rest b0 b1 b6) pen vb flag) 0x0 c) 0 16,
  joined (λ c. gives 0 (get_or (begins rest b0 b1 b6 pen vb flag) c [])) 0 16,
)
    ∷ []

-- CTRL1 bits 0, 1 and 6 each way, with ready's flag low and high; then every pen sequence and VB level that go together
unfoldable pub short_commands : List Reading
short_commands =
    rows (λ b0. rows (λ b1. rows (λ b6. sixteen_of 0x34 b0 b1 b6 0 0 0 ++ sixteen_of 0x08 b0 b1 b6 1 1 1) 0 2) 0 2) 0 2
    ++ (sixteen_of 0x34 1 0 1 1 0 0 ++ (sixteen_of 0x34 1 0 1 2 0 0 ++ (sixteen_of 0x34 0 1 1 0 1 0 ++ sixteen_of 0x3C 0 0 0 2 0 1)))

-- 10 to FF begin with no cycle used, and nothing else changes
unfoldable pub long_commands : List Reading
long_commands =
    (joined (λ c. writes rich 0x0 c) 0x10 240, joined (λ c. gives 0 (but 10 1 (but 11 c rich))) 0x10 240)
    -- with tilt high too, each way; no code is refused then
    ∷ (
      joined (λ c. writes (but 2 0x04 rich) 0x0 c ++ writes (but 2 0x0E rich) 0x0 c) 0x10 240,
      joined (λ c. gives 0 (but 10 1 (but 11 c (but 2 0x04 rich))) ++ gives 0 (but 10 1 (but 11 c (but 2 0x0E rich)))) 0x10 240,
    )
    ∷ (each (λ c. nth 0 (writes (but 2 0x0E rich) 0x0 c)) 0 256, replicate 256 0)
    ∷ (writes (but 2 0x04 rich) 0x0 0x0B, gives 0 (but 10 1 (but 11 0x0B (but 2 0x04 rich))))
    -- 4, 5 and 6 are given as without it
    ∷ (
      each (λ a. nth 0 (writes (but 2 0x04 rich) a 0x41)) 0 16,
      0 ∷ 0 ∷ 0 ∷ 0 ∷ 4 ∷ 0 ∷ 4 ∷ 0 ∷ 0 ∷ 0 ∷ 0 ∷ 0 ∷ 5 ∷ 5 ∷ 4 ∷ 4 ∷ [],
    )
    ∷ (nth 0 (writes (but 2 0x04 (but 10 1 (but 11 0x80 rich))) 0x0 0x41) ∷ [], 6 ∷ [])
    ∷ []
