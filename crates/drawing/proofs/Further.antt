-- The laws of a cell some cycles further: one cycle, a whole column of the glyph, and one stretch after the other.
-- Assumes nothing.
use mathlib.Core.Path.{◌≡◌, sym, ap, ◌∙◌}
use mathlib.Core.Bool.{Bool, false}
use mathlib.Core.List.{List, append-nil}
use Prim.Native.Nat.{ℕ, ◌+◌, ◌-◌, ◌*◌, ◌≤◌}
use native.Mathlib.Omega.{arith}
use Rattle.picture.specs.Dot.{paint}
use Rattle.picture.proofs.Laws.{paint_further, gathered_none}
use Rattle.motion.specs.declared.position.Spot.{Spot}
use Rattle.motion.specs.declared.character.Body.{Body}
use Rattle.motion.specs.declared.character.Lie.{Lie}
use Rattle.motion.specs.declared.character.Cell.{Cell}
use Rattle.motion.specs.Working.Cells.{Counts, OnPlace}
use Rattle.motion.specs.Glyph.{inked}
use Rattle.drawing.specs.declared.tip.Tip.{Tip}
use Rattle.drawing.specs.Figure.{Cells}
use Rattle.drawing.specs.Run.{mark, dot_of, dots_from}
use Rattle.drawing.specs.Working.Column.{Column, Further}
use Rattle.drawing.proofs.Runs.{body_here}

module _ {t : Tip} {lie : Lie} {b : Body} {glyph : List ℕ} {end : ℕ} where
  -- no cycle
  pub no_further : {c : Cell} {p : List ℕ} → Counts b c → c.i ≤ end → Further t lie b glyph c c end p p
  unfolding dots_from
  no_further {c} g h =
      let none : c.i - c.i ≡ 0 = omega arith in
      record { least = omega arith; most = h; counts = g; place = λ start at. at; picture = λ start at. rw none }

  -- as far as the cell has come, or further
  pub within : {c r : Cell} {p q : List ℕ} → r.i ≤ end → Further t lie b glyph c r r.i p q → Further t lie b glyph c r end p q
  within h f = record { least = f.least; most = h; counts = f.counts; place = f.place; picture = f.picture }

  -- one stretch and then another
  pub both_further : {c m r : Cell} {p q o : List ℕ} → Further t lie b glyph c m end p q → Further t lie b glyph m r end q o
      → Further t lie b glyph c r end p o
  unfolding dots_from
  both_further {c} {m} {r} {p} f g =
      let sum : r.i - c.i ≡ (m.i - c.i) + (r.i - m.i) = omega (arith, f.least, g.least) in
      let here : c.i + (m.i - c.i) ≡ m.i = omega (arith, f.least) in
      record {
        least = omega (arith, f.least, g.least);
        most = g.most;
        counts = g.counts;
        place = λ start at. g.place start (f.place start at);
        picture = λ start at.
            let dot = dot_of t (Cells lie b) glyph start in
            g.picture start (f.place start at)
            ∙ rw (f.picture start at, sum, paint_further t.lit dot c.i (m.i - c.i) (r.i - m.i) p, here);
      }

module _ {t : Tip} {lie : Lie} {b : Body} {glyph : List ℕ} {c r : Cell} {p q : List ℕ} where
  -- some cycles, whose dots and whose step are at hand
  stepped : (k : ℕ) → ((start : Spot) → OnPlace lie b start c → q ≡ paint t.lit (dots_from t (Cells lie b) glyph start c.i k) p)
      → (r.i ≡ c.i + k) × Counts b r × ((start : Spot) → OnPlace lie b start c → OnPlace lie b start r)
      → Further t lie b glyph c r r.i p q
  stepped k drawn next =
      let number = next.0 in
      let all : r.i - c.i ≡ k = omega arith in
      record {
        least = omega arith;
        most = omega arith;
        counts = next.1;
        place = next.2;
        picture = λ start at. rw all (drawn start at);
      }

  -- one cycle
  pub one_further : {on : Bool} → Counts b c → on ≡ inked glyph c.column c.row → q ≡ paint t.lit (mark t on c.at.x c.at.y) p
      → (r.i ≡ c.i + 1) × Counts b r × ((start : Spot) → OnPlace lie b start c → OnPlace lie b start r)
      → Further t lie b glyph c r r.i p q
  unfolding dots_from
  one_further g e drawn next = stepped 1 (λ start at. drawn ∙ rw (append-nil, body_here t glyph lie start g at e)) next

  -- a whole column of the glyph
  pub column_further : Column t lie b glyph c p q
      → (r.i ≡ c.i + b.p * b.rows) × Counts b r × ((start : Spot) → OnPlace lie b start c → OnPlace lie b start r)
      → Further t lie b glyph c r r.i p q
  column_further drawn next = stepped (b.p * b.rows) drawn next

-- with the tip up no cycle writes
pub up_column : (t : Tip) (lie : Lie) (b : Body) (glyph : List ℕ) (c : Cell) (p : List ℕ) → t.down ≡ false → Column t lie b glyph c p p
unfolding dots_from dot_of mark
up_column t lie b glyph c p up start at =
    ap (λ (ds : List ℕ). paint t.lit ds p) (sym (gathered_none (dot_of t (Cells lie b) glyph start) c.i (b.p * b.rows) (λ l h. rw up)))
