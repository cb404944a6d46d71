-- How long the panel's lines are.
-- Assumes nothing.
use mathlib.Core.Path.{◌≡◌, refl}
use Prim.Native.Nat.{ℕ, ◌≤◌, ◌<◌}
use native.Mathlib.Omega.{arith}
use lib.ListN.{length, length-append}
use Rattle.text.specs.Numbers.{decimal}
use Rattle.text.proofs.Laws.{decimal_length, pair_length}
use Rattle.panel.specs.Answer.{line_g, line_r, line_t, line_e, line_p}

-- G, 9366 and the line feed
pub line_g_length : length line_g ≡ 7
unfolding line_g
line_g_length = refl

-- R with its address and value
pub line_r_length : (a v : ℕ) → length (line_r a v) ≡ 7
unfolding line_r
line_r_length a v = refl

-- T with a number of at most five digits
pub line_t_length : (n : ℕ) → n < 100000 → length (line_t n) ≤ 8
unfolding line_t
line_t_length n h = rw length-append (omega (arith, decimal_length n 4 h))

-- E with numbers of at most five and two digits
pub line_e_length : (k n : ℕ) → k < 100000 → n < 100 → length (line_e k n) ≤ 11
unfolding line_e
line_e_length k n hk hn =
    omega (arith, pair_length 69 (decimal k) (decimal n), decimal_length k 4 hk, decimal_length n 1 hn)

-- P with numbers of at most three digits
pub line_p_length : (x y : ℕ) → x < 1000 → y < 1000 → length (line_p x y) ≤ 10
unfolding line_p
line_p_length x y hx hy = omega (arith, pair_length 80 (decimal x) (decimal y), decimal_length x 2 hx, decimal_length y 2 hy)
