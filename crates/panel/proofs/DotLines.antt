-- The laws of the lines of a picture's dots.
-- Assumes nothing.
use mathlib.Core.Path.{◌≡◌, refl, ◌∙◌}
use mathlib.Core.Bool.{false, cond}
use mathlib.Core.List.{List, [], ◌++◌, append_assoc, append-nil}
use Prim.Native.Nat.{ℕ, zero, suc, ◌+◌, ◌*◌, ◌/◌, ◌%◌, ◌<◌}
use native.Mathlib.Nat.{zero-add, add-zero, suc-add, add-suc}
use native.Mathlib.Omega.{arith}
use lib.ListN.{get_or}
use Rattle.picture.specs.Bit.{bit_at}
use Rattle.picture.specs.Dot.{dot_at}
use Rattle.panel.specs.Answer.{line_p}
use Rattle.panel.specs.Panel.{dot_lines}

-- the dots of a run and then of another are those of both
pub lines_append : (p : List ℕ) (d j k : ℕ) → dot_lines p d (j + k) ≡ dot_lines p d j ++ dot_lines p (d + j) k
unfolding dot_lines
lines_append p d zero k = rw (zero-add k, add-zero d)
lines_append p d (suc j) k =
    rw (suc-add j k, add-suc d j, ← suc-add d j, append_assoc) (rw (lines_append p (suc d) j k))

-- dot k of byte i is bit k of it
byte_dot : (p : List ℕ) (i k : ℕ) → k < 8 → dot_at p (8 * i + k) ≡ bit_at ((8 * i + k) % 8) (get_or p i 0)
unfolding dot_at
byte_dot p i k h = let byte : (8 * i + k) / 8 ≡ i = omega arith in rw byte

-- one dot more of byte i
pub lines_dot : (p : List ℕ) (i k : ℕ) → k < 8
    → dot_lines p (8 * i) (k + 1)
    ≡ dot_lines p (8 * i) k ++ cond (bit_at ((8 * i + k) % 8) (get_or p i 0)) (line_p ((8 * i + k) % 512) ((8 * i + k) / 512)) []
unfolding dot_lines
lines_dot p i k h = lines_append p (8 * i) k 1 ∙ rw (append-nil, byte_dot p i k h)

-- one byte more
pub lines_byte : (p : List ℕ) (i : ℕ) → dot_lines p 0 (8 * (i + 1)) ≡ dot_lines p 0 (8 * i) ++ dot_lines p (8 * i) 8
lines_byte p i =
    let next : 8 * (i + 1) ≡ 8 * i + 8 = omega arith in
    rw next (lines_append p 0 (8 * i) 8 ∙ rw zero-add)

-- dots that are dark have no lines
lines_dark : (p : List ℕ) (d k : ℕ) → ((j : ℕ) → j < k → dot_at p (d + j) ≡ false) → dot_lines p d k ≡ []
unfolding dot_lines
lines_dark p d zero dark = refl
lines_dark p d (suc k) dark =
    let here : dot_at p d ≡ false = rw add-zero at (dark 0 (omega arith)) in
    rw here (lines_dark p (suc d) k (λ j h. rw (suc-add, ← add-suc) (dark (suc j) (omega arith))))

-- every bit of 0 is 0
no_ones : (k : ℕ) → bit_at k 0 ≡ false
no_ones zero = refl
no_ones (suc k) = no_ones k

-- a byte of 0 has none
pub byte_dark : (p : List ℕ) (i : ℕ) → get_or p i 0 ≡ 0 → dot_lines p (8 * i) 8 ≡ []
byte_dark p i e = lines_dark p (8 * i) 8 (λ k h. byte_dot p i k h ∙ rw e (no_ones ((8 * i + k) % 8)))
