-- The laws of vectors: where their dots lie, where they end, and how a stroke goes from dot to dot.
-- A law of both axes is a pair, X first.
-- Assumes nothing.
use mathlib.Core.Path.{◌≡◌, refl, sym, ap, ◌∙◌}
use mathlib.Core.Bool.{Bool, true, false, cond, ◌||◌}
use Prim.Native.Nat.{ℕ, ◌+◌, ◌-◌, ◌*◌, ◌/◌, ◌%◌, ◌<◌, ◌≤◌, max, min}
use native.Mathlib.Nat.{mul-le-mul, min-eq_left}
use native.Mathlib.Omega.{arith}
use lib.Dec.{eqb, ltb}
use borrow.Author.Tests.{ltb-true, ltb-false}
use Rattle.picture.specs.Bit.{bit_at}
use Rattle.motion.specs.declared.vector.Line.{Line}
use Rattle.motion.specs.declared.vector.Stroke.{Stroke}
use Rattle.motion.specs.Position.{ahead, behind, signed}
use Rattle.motion.specs.Vector.{given_x, given_y, length_x, length_y, minus_x, minus_y, line_of, vector_cycles, offset, dist, along_x, along_y, vector_x, vector_y}
use Rattle.motion.specs.Working.Strokes.{Lengths, error_of, OnDot}
use Rattle.motion.proofs.Positions.{ahead_behind, signed_more, signed_range, signed_zero}
use Rattle.motion.proofs.Offsets.{carry, error_next, offset_next, near, offset_start, offset_end, offset_most, offset_grows}

-- one axis takes the offset, the other one dot a cycle: what holds of both arms holds of the arm taken
either : (P : ℕ → Type 0) (b : Bool) {x y : ℕ} → P x → P y → P (cond b x y)
either P true h k = h
either P false h k = k

-- a sum is taken arm by arm
cond_add : (b : Bool) (x y u v : ℕ) → cond b (x + u) (y + v) ≡ cond b x y + cond b u v
cond_add true x y u v = refl
cond_add false x y u v = refl

-- and so is an order
cond_le : (b : Bool) {x y u v : ℕ} → x ≤ u → y ≤ v → cond b x y ≤ cond b u v
cond_le true h k = h
cond_le false h k = k

-- from a places along, the place b along is b less a away
from : (back : Bool) (p a b : ℕ) → p < 4096 → a ≤ b → b ≤ 4096
    → ahead (behind p (signed back a)) (signed back b) ≡ ahead p (signed back (b - a))
from back p a b hp h k =
    let sum : a + (b - a) ≡ b = omega arith in
    sym (ap (λ (n : ℕ). ahead (behind p (signed back a)) (signed back n)) sum)
    ∙ sym (signed_more back (behind p (signed back a)) a (b - a) (omega arith))
    ∙ ap (λ (q : ℕ). ahead q (signed back (b - a))) (ahead_behind p (signed back a) hp)

module _ (l : Line) where
  -- dot 0 is the start
  pub along_start : (along_x l 0 ≡ 0) × (along_y l 0 ≡ 0)
  unfolding along_x along_y
  along_start =
      let P : ℕ → Type 0 = λ n. n ≡ 0 in
      let z = offset_start l.long l.short in
      (either P l.steep z refl, either P l.steep refl z)

  -- it adds nothing
  pub vector_start : (x y : ℕ) → x < 4096 → y < 4096 → (ahead x (vector_x l 0) ≡ x) × (ahead y (vector_y l 0) ≡ y)
  unfolding vector_x vector_y
  vector_start x y hx hy = simp (along_start.0, along_start.1) (signed_zero l.left x hx, signed_zero l.down y hy)

  -- one dot further is one along the longer axis, and the carry along the other
  pub along_next : (i : ℕ) → i < l.long
      → (along_x l (i + 1) ≡ along_x l i + cond l.steep (carry l.long l.short i) 1)
      × (along_y l (i + 1) ≡ along_y l i + cond l.steep 1 (carry l.long l.short i))
  unfolding along_x along_y
  along_next i h =
      let o = offset l.long l.short i in
      let n = carry l.long l.short i in
      rw (offset_next l.long l.short i (omega arith)) (cond_add l.steep o i n 1, cond_add l.steep i o 1 n)

  -- no dot is further along an axis than the line's length there
  pub along_span : (i : ℕ) → i ≤ l.long
      → (along_x l i ≤ cond l.steep l.short l.long) × (along_y l i ≤ cond l.steep l.long l.short)
  unfolding along_x along_y
  along_span i h =
      let o = offset_most l.long l.short i h in
      (cond_le l.steep o h, cond_le l.steep h o)

  -- and a later dot is no less far along it
  pub along_grows : (i j : ℕ) → i ≤ j → (along_x l i ≤ along_x l j) × (along_y l i ≤ along_y l j)
  unfolding along_x along_y
  along_grows i j h =
      let o = offset_grows l.long l.short i j h in
      (cond_le l.steep o h, cond_le l.steep h o)

  module _ (g : Lengths l) where
    -- the product in the error term is small
    pub product_most : (i : ℕ) → i ≤ l.long → 2 * i * l.short ≤ 130050
    product_most i h = omega (arith, mul-le-mul {n₁ = 2 * i} {m₁ = l.short} {n₂ = 510} {m₂ = 255} (omega arith) (omega arith))

    -- each dot is at most 255 along each axis
    pub along_most : (i : ℕ) → i ≤ l.long → (along_x l i ≤ 255) × (along_y l i ≤ 255)
    unfolding along_x along_y
    along_most i h =
        let P : ℕ → Type 0 = λ n. n ≤ 255 in
        let o : P (offset l.long l.short i) = omega (arith, offset_most l.long l.short i h) in
        (either P l.steep o (omega arith), either P l.steep (omega arith) o)

    -- so what is added is at most 4,096
    pub vector_most : (i : ℕ) → i ≤ l.long → (vector_x l i ≤ 4096) × (vector_y l i ≤ 4096)
    unfolding vector_x vector_y
    vector_most i h =
        let a = along_most i h in
        (signed_range l.left (along_x l i) (omega arith), signed_range l.down (along_y l i) (omega arith))

    -- one dot further from any start, modulo 4,096
    pub vector_next : (i : ℕ) → i < l.long → (x y : ℕ)
        → (ahead x (vector_x l (i + 1)) ≡ ahead (ahead x (vector_x l i)) (signed l.left (cond l.steep (carry l.long l.short i) 1)))
        × (ahead y (vector_y l (i + 1)) ≡ ahead (ahead y (vector_y l i)) (signed l.down (cond l.steep 1 (carry l.long l.short i))))
    unfolding vector_x vector_y
    vector_next i h x y =
        let n = carry l.long l.short i in
        let a = along_next i h in
        let m = along_most (i + 1) (omega arith) in (
          rw a.0 (sym (signed_more l.left x (along_x l i) (cond l.steep n 1) (omega arith))),
          rw a.1 (sym (signed_more l.down y (along_y l i) (cond l.steep 1 n) (omega arith))),
        )

    -- where dot j is, seen from dot i before it
    pub vector_from : (i j : ℕ) → i ≤ j → j ≤ l.long → (x y : ℕ) → x < 4096 → y < 4096
        → (ahead (behind x (vector_x l i)) (vector_x l j) ≡ ahead x (signed l.left (along_x l j - along_x l i)))
        × (ahead (behind y (vector_y l i)) (vector_y l j) ≡ ahead y (signed l.down (along_y l j - along_y l i)))
    unfolding vector_x vector_y
    vector_from i j h k x y hx hy =
        let grows = along_grows i j h in
        let most = along_most j k in (
          from l.left x (along_x l i) (along_x l j) hx grows.0 (omega (arith, most.0)),
          from l.down y (along_y l i) (along_y l j) hy grows.1 (omega (arith, most.1)),
        )

  -- a stroke before it goes on to the next dot
  pub on_next : (s : Stroke) {step e u v : ℕ} → Lengths l → s.i < l.long → s.error ≡ error_of l.long l.short s.i
      → step ≡ (s.error + 2 * l.short) / (2 * l.long) → e ≡ (s.error + 2 * l.short) % (2 * l.long)
      → u ≡ ahead s.x (signed l.left (cond l.steep step 1)) → v ≡ ahead s.y (signed l.down (cond l.steep 1 step))
      → (x y : ℕ) → OnDot l x y s → OnDot l x y (record { x = u; y = v; i = s.i + 1; error = e })
  on_next s g h err hs he hu hv x y on =
      let now : min s.i l.long ≡ s.i = min-eq_left (omega arith) in
      let then : min (s.i + 1) l.long ≡ s.i + 1 = min-eq_left (omega arith) in
      let next = vector_next g s.i h x y in
      record {
        x = hu ∙ rw (then, on.x, now, hs, err) (sym next.0);
        y = hv ∙ rw (then, on.y, now, hs, err) (sym next.1);
        error = he ∙ rw (then, err) (sym (error_next l.long l.short s.i));
      }

-- the smaller length is that of X where the line is steep
sides : (X Y : ℕ) (b : Bool) → ltb X Y ≡ b → (cond b (min X Y) (max X Y) ≡ X) × (cond b (max X Y) (min X Y) ≡ Y)
sides X Y true h = let l : X < Y = ltb-true X Y h in (omega arith, omega arith)
sides X Y false h = let l : Y ≤ X = ltb-false X Y h in (omega arith, omega arith)

-- each arm of a length is a byte
length_most : (none early both : Bool) (own larger short : ℕ) → own ≤ 255 → larger ≤ 255 → short ≤ 255
    → cond none 0 (cond early (cond both larger own) short) ≤ 255
length_most none early both own larger short h k l =
    let P : ℕ → Type 0 = λ n. n ≤ 255 in either P none (omega arith) (either P early (either P both k h) l)

module _ (c dx dy : ℕ) where
  -- so is each length
  length_x_most : dx < 256 → dy < 256 → length_x c dx dy ≤ 255
  unfolding length_x given_x
  length_x_most h k =
      length_most (eqb (c % 8) 2 || eqb (c % 8) 4) (ltb c 0x80) (bit_at 3 c) dx (max dx dy) (c / 32 % 4) (omega arith) (omega arith) (omega arith)

  length_y_most : dx < 256 → dy < 256 → length_y c dx dy ≤ 255
  unfolding length_y given_y
  length_y_most h k =
      length_most (eqb (c % 8) 0 || eqb (c % 8) 6) (ltb c 0x80) (bit_at 3 c) dy (max dx dy) (c / 8 % 4) (omega arith) (omega arith) (omega arith)

  -- the lengths of a vector are bytes
  pub line_lengths : dx < 256 → dy < 256 → Lengths (line_of c dx dy)
  unfolding line_of
  line_lengths h k = record { order = omega arith; small = omega (arith, length_x_most h k, length_y_most h k) }

  -- so it has at most 256 dots
  pub cycles_most : dx < 256 → dy < 256 → vector_cycles (line_of c dx dy) ≤ 256
  unfolding vector_cycles
  cycles_most h k = omega (arith, (line_lengths h k).small)

  -- every dot of every vector is within one half of its true line
  pub vector_near : (i : ℕ) → i ≤ (line_of c dx dy).long
      → 2 * dist (offset (line_of c dx dy).long (line_of c dx dy).short i * (line_of c dx dy).long) (i * (line_of c dx dy).short) ≤ (line_of c dx dy).long
  vector_near i h = near (line_of c dx dy).long (line_of c dx dy).short i h

  -- no dot leaves the box of the lengths
  pub along_box : (i : ℕ) → i ≤ (line_of c dx dy).long → (along_x (line_of c dx dy) i ≤ length_x c dx dy) × (along_y (line_of c dx dy) i ≤ length_y c dx dy)
  unfolding along_x along_y line_of
  along_box i h =
      let X = length_x c dx dy in
      let Y = length_y c dx dy in
      let s = sides X Y (ltb X Y) refl in
      let o = offset_most (max X Y) (min X Y) i h in
      (rw s.0 at (cond_le (ltb X Y) o h), rw s.1 at (cond_le (ltb X Y) h o))

  -- the last dot is its far corner
  pub along_end : (along_x (line_of c dx dy) (line_of c dx dy).long ≡ length_x c dx dy)
      × (along_y (line_of c dx dy) (line_of c dx dy).long ≡ length_y c dx dy)
  unfolding along_x along_y line_of
  along_end =
      let X = length_x c dx dy in
      let Y = length_y c dx dy in
      rw (offset_end (max X Y) (min X Y) (omega arith)) (sides X Y (ltb X Y) refl)

  -- so a vector ends its lengths away from its start, each with its sign
  pub vector_end : (vector_x (line_of c dx dy) (line_of c dx dy).long ≡ signed (minus_x c) (length_x c dx dy))
      × (vector_y (line_of c dx dy) (line_of c dx dy).long ≡ signed (minus_y c) (length_y c dx dy))
  unfolding vector_x vector_y line_of
  vector_end = (ap (signed (minus_x c)) along_end.0, ap (signed (minus_y c)) along_end.1)

  -- codes with the same lengths, so those that differ in sign only, have their dots equally far along
  pub mirrored : (d i : ℕ) → length_x c dx dy ≡ length_x d dx dy → length_y c dx dy ≡ length_y d dx dy
      → (along_x (line_of c dx dy) i ≡ along_x (line_of d dx dy) i) × (along_y (line_of c dx dy) i ≡ along_y (line_of d dx dy) i)
  unfolding along_x along_y line_of
  mirrored d i hx hy = (simp (hx, hy), simp (hx, hy))
