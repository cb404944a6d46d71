-- The laws of a vector inside the window: that its dots are in the picture, and how their numbers step.
-- Assumes nothing.
use mathlib.Core.Path.{◌≡◌, sym, ap, ◌∙◌}
use mathlib.Core.Bool.{Bool, true, false, cond}
use mathlib.Core.List.{[], ◌∷◌}
use Prim.Native.Nat.{ℕ, zero, suc, ◌+◌, ◌-◌, ◌*◌, ◌/◌, ◌%◌, ◌≤◌, ◌<◌, min}
use native.Mathlib.Nat.{add-mul, suc-mul, one-mul, zero-mul, mul_comm, mul-le-mul_right, min-eq_left}
use native.Mathlib.Omega.{arith}
use lib.Arith.{digits_div, digits_mod}
use lib.Dec.{eqb}
use Rattle.picture.specs.declared.screen.Window.{Window}
use Rattle.picture.specs.Screen.{Screen, dot_number}
use Rattle.picture.proofs.Laws.{place_own}
use Rattle.motion.specs.declared.position.Spot.{Spot}
use Rattle.motion.specs.declared.vector.Line.{Line}
use Rattle.motion.specs.Position.{ahead, behind, signed}
use Rattle.motion.specs.Vector.{along_x, along_y, vector_x, vector_y}
use Rattle.motion.specs.LineType.{line_on}
use Rattle.motion.specs.Working.Strokes.{Lengths, error_of}
use Rattle.motion.proofs.Laws.{carry, carry_most, error_next, vector_next, vector_from, along_span}
use Rattle.drawing.specs.declared.tip.Tip.{Tip}
use Rattle.drawing.specs.declared.inside.Strides.{Strides}
use Rattle.drawing.specs.declared.inside.Trace.{Trace}
use Rattle.drawing.specs.Run.{mark}
use Rattle.drawing.specs.Working.Cycle.{vector_dot}
use Rattle.drawing.specs.Working.Inside.{Within, stride, onward, Strode, Shown, OnTrace}

-- one place on or back, both inside a window that ends short of 4,096, is one more or one less
axis_step : (back : Bool) (p q size h : ℕ) → p < size → q < size → size < 4096 → h ≤ 1 → q ≡ ahead p (signed back h)
    → q + cond back h 0 ≡ p + cond back 0 h
axis_step true p q size h hp hq hs hh e = omega arith
axis_step false p q size h hp hq hs hh e = omega arith

-- the same of lines, in dots
lines_step : (back : Bool) (w p q h : ℕ) → q + cond back h 0 ≡ p + cond back 0 h
    → q * w + cond back (h * w) 0 ≡ p * w + cond back 0 (h * w)
lines_step true w p q h e = omega (arith, simp add-mul at (ap (λ (n : ℕ). n * w) e))
lines_step false w p q h e = omega (arith, simp add-mul at (ap (λ (n : ℕ). n * w) e))

-- so the number of a dot steps by the strides of both axes
number_step : (left down : Bool) (x y u v n m : ℕ) → u + cond left n 0 ≡ x + cond left 0 n → v + cond down m 0 ≡ y + cond down 0 m
    → y + x < 1048576 → v + u < 1048576 → n ≤ 1 → m ≤ 4096
    → v + u ≡ onward (y + x) (onward (stride left n) (stride down m))
number_step true true x y u v n m ex ey h k l o = omega arith
number_step true false x y u v n m ex ey h k l o = omega arith
number_step false true x y u v n m ex ey h k l o = omega arith
number_step false false x y u v n m ex ey h k l o = omega arith

-- no step along one axis leaves the stride of the other
flat_stride : (left down : Bool) (d : ℕ) → onward d (onward (stride left 1) (stride down 0)) ≡ onward d (stride left 1)
flat_stride true true d = omega arith
flat_stride true false d = omega arith
flat_stride false true d = omega arith
flat_stride false false d = omega arith

steep_stride : (left down : Bool) (d w : ℕ) → w ≤ 4096 → onward d (onward (stride left 0) (stride down w)) ≡ onward d (stride down w)
steep_stride true true d w h = omega arith
steep_stride true false d w h = omega arith
steep_stride false true d w h = omega arith
steep_stride false false d w h = omega arith

-- a dot inside has a small number
number_most : (w h x y : ℕ) → w * h ≤ 524288 → x < w → y < h → dot_number w x y < 1048576
number_most w h x y few hx hy = omega (arith, mul-le-mul_right w hy, suc-mul y w, mul_comm w h)

-- how much further along each axis the next dot is, by what the shorter one carries
abbrev hop_x : Line → ℕ → ℕ
hop_x l i = cond l.steep (carry l.long l.short i) 1

abbrev hop_y : Line → ℕ → ℕ
hop_y l i = cond l.steep 1 (carry l.long l.short i)

hop_most : (l : Line) (i : ℕ) → Lengths l → i < l.long → (hop_x l i ≤ 1) × (hop_y l i ≤ 1)
hop_most l i g h = go l.steep
  where
    go : (b : Bool) → (cond b (carry l.long l.short i) 1 ≤ 1) × (cond b 1 (carry l.long l.short i) ≤ 1)
    go true = (carry_most l.long l.short i (omega arith) g.order, omega arith)
    go false = (omega arith, carry_most l.long l.short i (omega arith) g.order)

module _ (l : Line) (g : Lengths l) (w h x₀ y₀ : ℕ) where
  -- the number of dot i
  abbrev dot : ℕ → ℕ
  dot i = dot_number w (ahead x₀ (vector_x l i)) (ahead y₀ (vector_y l i))

  -- dot i is inside, so its number is small
  pub dot_most : (i : ℕ) → Shown w h l x₀ y₀ i → i ≤ l.long → dot i < 1048576
  dot_most i s k =
      let here = s.inside i (omega arith) k in
      number_most w h (ahead x₀ (vector_x l i)) (ahead y₀ (vector_y l i)) s.few here.0 here.1

  -- one dot further its number steps by both hops
  dot_next : (i : ℕ) → Shown w h l x₀ y₀ i → i < l.long
      → dot (i + 1) ≡ onward (dot i) (onward (stride l.left (hop_x l i)) (stride l.down (hop_y l i * w)))
  dot_next i s k =
      let here = s.inside i (omega arith) (omega arith) in
      let there = s.inside (i + 1) (omega arith) (omega arith) in
      let next = vector_next l g i k x₀ y₀ in
      let hop = hop_most l i g k in
      let across = axis_step l.left _ _ w (hop_x l i) here.0 there.0 s.wide hop.0 next.0 in
      let up = lines_step l.down w _ _ (hop_y l i) (axis_step l.down _ _ h (hop_y l i) here.1 there.1 s.high hop.1 next.1) in
      number_step l.left l.down _ _ _ _ (hop_x l i) (hop_y l i * w) across up
      (dot_most i s (omega arith))
      (number_most w h (ahead x₀ (vector_x l (i + 1))) (ahead y₀ (vector_y l (i + 1))) s.few there.0 there.1)
      hop.0 (omega (arith, s.wide, mul-le-mul_right w hop.1))

-- which stride of the code that is, where the shorter axis steps by none and by one
straight_on : (steep left down : Bool) (d w : ℕ) → w ≤ 4096
    → onward d (onward (stride left (cond steep 0 1)) (stride down (cond steep 1 0 * w))) ≡ onward d (cond steep (stride down w) (stride left 1))
straight_on true left down d w h = rw (one-mul w) (steep_stride left down d w h)
straight_on false left down d w h = rw (zero-mul w) (flat_stride left down d)

diagonal_on : (steep left down : Bool) (d w : ℕ)
    → onward d (onward (stride left (cond steep 1 1)) (stride down (cond steep 1 1 * w))) ≡ onward d (onward (stride left 1) (stride down w))
diagonal_on true left down d w = rw (one-mul w)
diagonal_on false left down d w = rw (one-mul w)

hop_on : (c : ℕ) → c ≤ 1 → (l : Line) (w : ℕ) (by : Strides) → Strode w l by → w ≤ 4096 → (d : ℕ)
    → onward d (onward (stride l.left (cond l.steep c 1)) (stride l.down (cond l.steep 1 c * w)))
    ≡ onward d (cond (eqb c 0) by.straight by.diagonal)
hop_on zero k l w by go h d = straight_on l.steep l.left l.down d w h ∙ sym (ap (onward d) go.straight)
hop_on (suc zero) k l w by go h d = diagonal_on l.steep l.left l.down d w ∙ sym (ap (onward d) go.diagonal)
hop_on (suc (suc c)) k l w by go h d = absurd (omega arith)

module _ (l : Line) (w h x₀ y₀ : ℕ) where
  -- a trace before the last dot goes on to the next
  pub trace_next : Lengths l → (by : Strides) (s : Trace) {step e d : ℕ} → Strode w l by → Shown w h l x₀ y₀ s.i → s.i < l.long
      → s.error ≡ error_of l.long l.short s.i
      → step ≡ (s.error + 2 * l.short) / (2 * l.long) → e ≡ (s.error + 2 * l.short) % (2 * l.long)
      → d ≡ onward s.dot (cond (eqb step 0) by.straight by.diagonal)
      → OnTrace w l x₀ y₀ s → OnTrace w l x₀ y₀ (record { dot = d; i = s.i + 1; error = e })
  trace_next g by s {step} {e} {d} go sh k err hs he hd on =
      let now : min s.i l.long ≡ s.i = min-eq_left (omega arith) in
      let then : min (s.i + 1) l.long ≡ s.i + 1 = min-eq_left (omega arith) in
      let c = carry l.long l.short s.i in
      let is : step ≡ c = hs ∙ ap (λ (n : ℕ). (n + 2 * l.short) / (2 * l.long)) err in
      let hop = hop_on c (carry_most l.long l.short s.i (omega arith) g.order) l w by go (omega (arith, sh.wide)) s.dot in
      let n = onward (stride l.left (hop_x l s.i)) (stride l.down (hop_y l s.i * w)) in
      record {
        dot =
            rw then
            ((rw is at hd) ∙ sym hop ∙ ap (λ (m : ℕ). onward m n) (rw now at on.dot) ∙ sym (dot_next l g w h x₀ y₀ s.i sh k));
        error = he ∙ rw (then, err) (sym (error_next l.long l.short s.i));
      }

  -- a trace past the last dot stays
  pub trace_last : (s : Trace) → l.long ≤ s.i → OnTrace w l x₀ y₀ s
      → OnTrace w l x₀ y₀ (record { dot = s.dot; i = s.i + 1; error = s.error })
  trace_last s k on =
      let same : min (s.i + 1) l.long ≡ min s.i l.long = omega arith in
      record { dot = rw same on.dot; error = rw same on.error }

-- either of two strides is as small as both are
pub either_most : (b : Bool) (m n : ℕ) → m ≤ 1048576 → n ≤ 1048576 → cond b m n ≤ 1048576
either_most true m n h k = h
either_most false m n h k = k

-- a stride of at most 4,096 dots is small
pub stride_most : (back : Bool) (n : ℕ) → n ≤ 4096 → stride back n ≤ 1048576
stride_most true n h = omega arith
stride_most false n h = omega arith

pub strode_most : (w : ℕ) (l : Line) (by : Strides) → Strode w l by → w ≤ 4096 → (by.straight ≤ 1048576) × (by.diagonal ≤ 1048576)
strode_most w l by go h = (
  rw go.straight (either_most l.steep (stride l.down w) (stride l.left 1) (stride_most l.down w h) (stride_most l.left 1 (omega arith))),
  rw go.diagonal (omega arith),
)

-- a vector that lies inside from dot i on shows its dots from there on
pub within_shown : (w : Window) (n : ℕ) (l : Line) (at : Spot) (i : ℕ) → Screen w n → Lengths l → at.x < 4096 → at.y < 4096
    → Within w l at → Shown w.width w.height l (behind at.x (vector_x l i)) (behind at.y (vector_y l i)) i
within_shown w n l at i s g hx hy within =
    record {
      wide = within.x.short;
      high = within.y.short;
      few = omega (arith, s.area, s.small);
      inside = λ j k m.
          let there = vector_from l g i j k m at.x at.y hx hy in
          let span = along_span l j m in (
            rw there.0 (within.x.inside (along_x l j - along_x l i) (omega (arith, span.0))),
            rw there.1 (within.y.inside (along_y l j - along_y l i) (omega (arith, span.1))),
          );
    }

module _ (w : ℕ) (l : Line) where
  -- and so from each later dot on
  pub shown_later : (h x₀ y₀ i j : ℕ) → i ≤ j → Shown w h l x₀ y₀ i → Shown w h l x₀ y₀ j
  shown_later h x₀ y₀ i j k s =
      record { wide = s.wide; high = s.high; few = s.few; inside = λ n m o. s.inside n (omega arith) o }

-- the dot that a trace marks is that of its cycle
pub trace_marks : (t : Tip) (ctrl2 : ℕ) (l : Line) (x₀ y₀ : ℕ) (s : Trace) {on : Bool} → t.down ≡ true
    → Shown t.window.width t.window.height l x₀ y₀ s.i → s.i ≤ l.long
    → OnTrace t.window.width l x₀ y₀ s → on ≡ line_on ctrl2 s.i
    → cond on (s.dot ∷ []) [] ≡ vector_dot t ctrl2 l x₀ y₀ s.i
unfolding vector_dot mark
trace_marks t ctrl2 l x₀ y₀ s down shown h at e =
    let now : min s.i l.long ≡ s.i = min-eq_left h in
    let here = shown.inside s.i (omega arith) h in
    rw (e, down, at.dot, now, place_own t.window (ahead x₀ (vector_x l s.i)) (ahead y₀ (vector_y l s.i)) here.0 here.1)

-- the place of a trace is that of its dot
pub trace_place : (w h : ℕ) (l : Line) (x₀ y₀ i : ℕ) (s : Trace) → Shown w h l x₀ y₀ i → i ≤ min s.i l.long → OnTrace w l x₀ y₀ s
    → (s.dot % w ≡ ahead x₀ (vector_x l (min s.i l.long))) × (s.dot / w ≡ ahead y₀ (vector_y l (min s.i l.long)))
trace_place w h l x₀ y₀ i s shown k on =
    let j = min s.i l.long in
    let x = ahead x₀ (vector_x l j) in
    let y = ahead y₀ (vector_y l j) in
    let here = shown.inside j k (omega arith) in
    (ap (λ (n : ℕ). n % w) on.dot ∙ digits_mod y here.0, ap (λ (n : ℕ). n / w) on.dot ∙ digits_div y here.0)
