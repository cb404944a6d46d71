-- `drawing::letters::draw_cells`: the loop's invariant: the cell is some cycles further than the first one, and they are done. The
-- measure is the cycles left.
-- Assumes nothing.
use Prim.Native.Nat.{◌-◌}
use Rattle.drawing.specs.Working.Column.{Further}
use Rattle.drawing.proofs.letters.draw_cells.Given as goal

abbrev pub invariant-loop-c : goal.invariant-loop-c
invariant-loop-c g l = Further l.t l.letter.lie l.letter.body l.glyph l.initial.c l.c l.end l.initial.pic l.pic

abbrev pub decreases-loop-c : goal.decreases-loop-c
decreases-loop-c g l = l.end - l.c.i
