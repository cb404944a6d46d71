-- The laws of a run: what its loop has done after some cycles, and that one cycle more goes on so.
-- Assumes nothing.
use mathlib.Core.Path.{◌≡◌, refl, ap, ◌∙◌}
use mathlib.Core.Bool.{Bool}
use mathlib.Core.List.{List}
use Prim.Native.Nat.{ℕ, ◌+◌, ◌≤◌, min}
use native.Mathlib.Nat.{min-eq_left}
use native.Mathlib.Omega.{arith}
use lib.ListN.{length}
use Rattle.picture.specs.declared.screen.Window.{Window}
use Rattle.picture.specs.Dot.{paint, gathered}
use Rattle.picture.specs.Screen.{Screen}
use Rattle.picture.proofs.Laws.{paint_length, paint_more, paint_further}
use Rattle.motion.specs.declared.position.Spot.{Spot}
use Rattle.motion.specs.declared.vector.Line.{Line}
use Rattle.motion.specs.declared.vector.Stroke.{Stroke}
use Rattle.motion.specs.declared.character.Body.{Body}
use Rattle.motion.specs.declared.character.Lie.{Lie}
use Rattle.motion.specs.declared.character.Cell.{Cell}
use Rattle.motion.specs.LineType.{line_on}
use Rattle.motion.specs.Working.Strokes.{OnDot}
use Rattle.motion.specs.Working.Cells.{Counts, OnPlace}
use Rattle.motion.specs.Glyph.{inked}
use Rattle.drawing.specs.declared.tip.Tip.{Tip}
use Rattle.drawing.specs.Figure.{Cells, way, writes}
use Rattle.drawing.specs.Run.{mark, place_of, dot_of}
use Rattle.drawing.specs.Working.Cycle.{vector_dot}

-- k cycles from cycle `from` on have left picture q of picture p, and cycle i is next
pub record Done (lit : Bool) (dot : ℕ → List ℕ) (from : ℕ) (p : List ℕ) (k i : ℕ) (q : List ℕ) : Type 0 where
  pub number : i ≡ from + k
  pub picture : q ≡ paint lit (gathered dot from k) p

module _ {lit : Bool} {dot : ℕ → List ℕ} {from : ℕ} {p : List ℕ} where
  -- before the first cycle
  pub none : {i : ℕ} → i ≡ from → Done lit dot from p 0 i p
  none e = record { number = omega arith; picture = refl }

  module _ {k i : ℕ} {q : List ℕ} (d : Done lit dot from p k i q) where
    -- one cycle more, whose dots are those of cycle i
    pub more : {j : ℕ} {here r : List ℕ} → j ≡ i + 1 → here ≡ dot i → r ≡ paint lit here q → Done lit dot from p (k + 1) j r
    more e h paints =
        record { number = omega arith; picture = paints ∙ rw (h, d.number, d.picture, paint_more lit dot from k p) }

    -- m cycles more, whose dots are those of the cycles from i on
    pub further : (m : ℕ) {j : ℕ} {here r : List ℕ} → j ≡ i + m → here ≡ gathered dot i m → r ≡ paint lit here q → Done lit dot from p (k + m) j r
    further m e h paints =
        record { number = omega arith; picture = paints ∙ rw (h, d.number, d.picture, paint_further lit dot from k m p) }

    -- the picture keeps its length
    pub size : length q ≡ length p
    size = ap length d.picture ∙ paint_length lit (gathered dot from k) p

    -- so it is a picture of the same window
    pub still : {w : Window} → Screen w (length p) → Screen w (length q)
    still s = rw size s

module _ (t : Tip) {on : Bool} where
  -- what a stroke on a dot of its vector marks is that dot
  pub vector_here : (ctrl2 : ℕ) {x₀ y₀ : ℕ} {l : Line} {s : Stroke} → OnDot l x₀ y₀ s → s.i ≤ l.long → on ≡ line_on ctrl2 s.i
      → mark t on s.x s.y ≡ vector_dot t ctrl2 l x₀ y₀ s.i
  unfolding vector_dot
  vector_here ctrl2 {l = l} {s = s} at h e = let now : min s.i l.long ≡ s.i = min-eq_left h in rw (e, at.x, at.y, now)

  -- what a cell on its place marks is the dot of its cycle
  pub body_here : (glyph : List ℕ) (lie : Lie) {b : Body} {c : Cell} (start : Spot) → Counts b c → OnPlace lie b start c
      → on ≡ inked glyph c.column c.row → mark t on c.at.x c.at.y ≡ dot_of t (Cells lie b) glyph start c.i
  unfolding dot_of place_of way writes
  body_here glyph lie start g at e = rw (e, g.column, g.row, at)
