-- `motion::character::Letter::next_column` meets its contract: P columns of rows cycles are passed, and the glyph's column is one more.
-- Assumes nothing.
use mathlib.Core.Path.{refl, ◌∙◌}
use Rattle.motion.proofs.Counting.{split_none}
use Rattle.motion.proofs.Cells.{counted, split_past, split_next, on_passed}
use Rattle.motion.proofs.character.Letter.next_column.Goals as goal

pub returns : goal.returns
returns c =
    let g = c.requires.0 in
    let s = c.args.self.sized in
    let foot = c.requires.1 in (
      refl,
      counted (split_past s g foot) (split_none _) (split_next s g foot c.requires.2),
      on_passed s g foot c.args.self.lie refl (c.moved.ensures ∙ rw c.laid.ensures),
    )
