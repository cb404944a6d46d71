-- `drawing::letters::draw_body` meets its contract: the cycles of the run from the cell of its first one, column by column or
-- one by one.
-- Assumes nothing.
use mathlib.Core.Path.{◌≡◌, ◌∙◌}
use mathlib.Core.List.{List}
use Prim.Native.Nat.{ℕ, ◌+◌, ◌-◌, ◌≤◌}
use native.Mathlib.Omega.{arith}
use Rattle.motion.specs.declared.character.Body.{Body}
use Rattle.motion.specs.declared.character.Lie.{Lie}
use Rattle.motion.specs.declared.character.Cell.{Cell}
use Rattle.motion.specs.Character.{body_cycles}
use Rattle.motion.specs.Working.Cells.{Sized, OnPlace}
use Rattle.drawing.specs.declared.tip.Tip.{Tip}
use Rattle.drawing.specs.declared.tip.Run.{Run}
use Rattle.drawing.specs.Figure.{Cells, cycles_of, way}
use Rattle.drawing.specs.Run.{start_of, Ran}
use Rattle.drawing.specs.Working.Column.{Further}
use Rattle.drawing.proofs.Rests.{cells_rest}
use Rattle.drawing.proofs.letters.draw_body.Goals as goal

-- from the cell of the first cycle to that of the one past the last
ran : (t : Tip) (lie : Lie) (b : Body) (glyph : List ℕ) (run : Run) (first last : Cell) (p q : List ℕ) → Sized b
    → run.from + run.count ≤ body_cycles b → first.i ≡ run.from → OnPlace lie b (start_of (Cells lie b) run.from run.at) first
    → last.i ≡ run.from + run.count → Further t lie b glyph first last (run.from + run.count) p q
    → Ran t (Cells lie b) glyph run last.at p q
ran t lie b glyph run first last p q size most number at end f =
    let start = start_of (Cells lie b) run.from run.at in
    let count : last.i - first.i ≡ run.count = omega arith in
    record {
      rests = cells_rest lie b start (run.from + run.count) size most (rw end at (f.place start at));
      picture = f.picture start at ∙ rw (count, number);
    }

pub returns-then-run-letter : goal.returns-then-run-letter
unfolding start_of way cycles_of
returns-then-run-letter c =
    let a = c.args in
    let e = c.cell_at-first.ensures in
    ran a.t a.letter.lie a.letter.body a.glyph.now a.run c.cell_at-first.result c.draw_cells.result _ _ a.letter.sized
    c.requires.granted.1.most e.0 (e.2 a.letter.lie) c.draw_cells.ensures.0 c.draw_cells.ensures.1

pub returns : goal.returns
unfolding start_of way cycles_of
returns c =
    let a = c.args in
    let e = c.cell_at-first.ensures in
    ran a.t a.letter.lie a.letter.body a.glyph.now a.run c.cell_at-first.result c.draw_cells-2.result _ _ a.letter.sized
    c.requires.granted.1.most e.0 (e.2 a.letter.lie) c.draw_cells-2.ensures.0 c.draw_cells-2.ensures.1
