-- `panel::output::put_p` meets its contract: the pair is the line, and its numbers are short.
-- Assumes nothing.
use native.Mathlib.Omega.{arith}
use Rattle.panel.specs.Answer.{line_p}
use Rattle.text.proofs.Laws.{writes_within}
use Rattle.panel.proofs.LineLengths.{line_p_length}
use Rattle.panel.proofs.output.put_p.Goals as goal

pub returns : goal.returns
unfolding line_p
returns c =
    rw (← c.from.ensures, ← c.from-2.ensures) (writes_within (line_p_length _ _ (omega arith) (omega arith)) c.put_pair.ensures)
