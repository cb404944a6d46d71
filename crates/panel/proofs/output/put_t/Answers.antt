-- `panel::output::put_t` meets its contract: the pieces, one behind the other, are the line.
-- Assumes nothing.
use native.Mathlib.Omega.{arith}
use Rattle.panel.specs.Answer.{line_t}
use Rattle.text.proofs.Laws.{writes_more, writes_within}
use Rattle.panel.proofs.LineLengths.{line_t_length}
use Rattle.panel.proofs.output.put_t.Goals as goal

pub returns : goal.returns
unfolding line_t
returns c =
    rw (← c.from.ensures) (writes_within (line_t_length _ (omega arith))
    (writes_more c.put_letter.ensures (writes_more c.put_decimal.ensures.0 c.put.ensures)))
