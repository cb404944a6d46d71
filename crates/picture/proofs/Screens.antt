-- The laws of positions: every dot that a position has lies in the picture, and no two positions of the window share one.
-- Once over width and height.
-- Assumes nothing.
use mathlib.Core.Path.{◌≡◌, sym, ap, ◌∙◌}
use mathlib.Core.Logic.{⊎_elim}
use mathlib.Core.Bool.{Bool, true, false, or-false, false≢true}
use mathlib.Core.List.{[], ◌∷◌}
use Prim.Native.Nat.{ℕ, ◌+◌, ◌-◌, ◌*◌, ◌/◌, ◌%◌, ◌<◌, ◌≤◌}
use native.Mathlib.Nat.{mul_left_comm, mul-le-mul_right, suc-mul, mul_comm, mul-add-div_right, div-eq_of_lt, add-zero, mod-lt, mod-eq_of_lt}
use native.Mathlib.Omega.{arith}
use lib.Bits.{bit_and, and_mask}
use lib.Dec.{eqb, ltb}
use lib.Pow.{pow_pos}
use borrow.Author.Tests.{eqb-true, ltb-true, ltb-false, lt-ltb, le-ltb}
use Rattle.picture.specs.declared.screen.Window.{Window}
use Rattle.picture.specs.Dot.{has}
use Rattle.picture.specs.Screen.{Screen, Power, place, folded, dot_number}
use Rattle.basis.proofs.Cases.{split}

one_dot_lem : (d e : ℕ) → has d (e ∷ []) ≡ true → d ≡ e
one_dot_lem d e h = eqb-true d e (sym (or-false (eqb d e)) ∙ h)

row_of : (w x y : ℕ) → x < w → 0 < w → (y * w + x) / w ≡ y
row_of w x y h pos = mul-add-div_right pos y x ∙ ap (λ (n : ℕ). y + n) (div-eq_of_lt h) ∙ add-zero y

-- the document's own rule: dot (x, y) is bit x % 8 of byte y * (w / 8) + x / 8
pub dot_byte : (k x y : ℕ) → (y * (8 * k) + x) / 8 ≡ y * k + x / 8
dot_byte k x y = omega (arith, mul_left_comm y 8 k)

pub dot_bit : (k x y : ℕ) → (y * (8 * k) + x) % 8 ≡ x % 8
dot_bit k x y = omega (arith, mul_left_comm y 8 k)

-- a power of two is above 0
pub power_some : {n : ℕ} → Power n → 0 < n
power_some p = rw p.1 (pow_pos p.0)

-- a position in the window has a dot in the picture
pub in_window : (w : Window) (n x y : ℕ) → Screen w n → x < w.width → y < w.height → y * w.width + x < 8 * n
in_window w n x y s hx hy =
    omega (arith, mul-le-mul_right w.width hy, suc-mul y w.width, mul_comm w.width w.height, s.area)

-- so do k positions of one row
pub row_in : (w : Window) (n x y k : ℕ) → Screen w n → x + k ≤ w.width → y < w.height → (y * w.width + x) + k ≤ 8 * n
row_in w n x y k s hx hy =
    omega (arith, mul-le-mul_right w.width hy, suc-mul y w.width, mul_comm w.width w.height, s.area)

-- the numbers that the code goes through, one row past the window's last included, are small
pub row_small : (w : Window) (n y : ℕ) → Screen w n → y ≤ w.height → (y * w.width ≤ 524288) × (w.width ≤ 524288)
row_small w n y s hy = (
  omega (arith, mul-le-mul_right w.width hy, mul_comm w.width w.height, s.area, s.small),
  omega (arith, row_in w n 0 0 w.width s (omega arith) (power_some s.high), s.small),
)

-- and no other position of the window has it
pub same_place : (w x y u v : ℕ) → x < w → u < w → y * w + x ≡ v * w + u → (x ≡ u) × (y ≡ v)
same_place w x y u v hx hu e =
    let pos : 0 < w = omega arith in
    let row : y ≡ v = sym (row_of w x y hx pos) ∙ ap (λ (n : ℕ). n / w) e ∙ row_of w u v hu pos in
    (omega (arith, ap (λ (n : ℕ). n * w) row), row)

-- below a power of two a mask of its bits is the remainder
pub fold_mask : (n p : ℕ) → Power n → bit_and p (n - 1) ≡ folded true n p
fold_mask n p h = rw h.1 (and_mask p h.0)

-- on a cyclic screen every position is inside
pub folded_lt : (n p : ℕ) → 0 < n → folded true n p < n
folded_lt n p h = mod-lt p h

-- a coordinate inside is seen as it is
folded_own : (cyclic : Bool) (n p : ℕ) → p < n → folded cyclic n p ≡ p
folded_own true n p h = mod-eq_of_lt h
folded_own false n p h = omega (arith, mod-eq_of_lt h)

module _ (w : Window) (x y : ℕ) where
  -- where the dot sees the position
  abbrev col : ℕ
  col = folded w.cyclic w.width x

  abbrev row : ℕ
  row = folded w.cyclic w.height y

  pub place_in : col < w.width → row < w.height → place w x y ≡ dot_number w.width col row ∷ []
  unfolding place
  place_in hx hy = rw (lt-ltb col w.width hx, lt-ltb row w.height hy)

  -- a position in the window has its own dot, cyclic or not
  pub place_own : x < w.width → y < w.height → place w x y ≡ dot_number w.width x y ∷ []
  place_own hx hy =
      let own_x = folded_own w.cyclic w.width x hx in
      let own-y = folded_own w.cyclic w.height y hy in
      place_in (rw own_x hx) (rw own-y hy) ∙ rw (own_x, own-y)

  pub place_beside : w.width ≤ col → place w x y ≡ []
  unfolding place
  place_beside hx = rw (le-ltb col w.width hx)

  pub place_above : w.height ≤ row → place w x y ≡ []
  unfolding place
  place_above hy = rw (le-ltb row w.height hy) (⊎_elim (λ t. rw t) (λ t. rw t) (split (ltb col w.width)))

  -- every dot that a position has is in the picture
  pub place_fits : (n d : ℕ) → Screen w n → has d (place w x y) ≡ true → d < 8 * n
  place_fits n d s e =
      ⊎_elim
      (λ t. ⊎_elim
      (λ u. rw (one_dot_lem d (row * w.width + col) (rw (place_in (ltb-true col w.width t) (ltb-true row w.height u)) at e))
      (in_window w n col row s (ltb-true col w.width t) (ltb-true row w.height u)))
      (λ u. absurd (false≢true (rw (place_above (ltb-false row w.height u)) at e)))
      (split (ltb row w.height)))
      (λ t. absurd (false≢true (rw (place_beside (ltb-false col w.width t)) at e)))
      (split (ltb col w.width))
