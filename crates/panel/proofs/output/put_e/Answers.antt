-- `panel::output::put_e` meets its contract: the pair is the line, and its numbers are short.
-- Assumes nothing.
use Rattle.panel.specs.Answer.{line_e}
use Rattle.text.proofs.Laws.{writes_within}
use Rattle.parts.proofs.Laws.{number_small}
use Rattle.panel.proofs.LineLengths.{line_e_length}
use Rattle.panel.proofs.output.put_e.Goals as goal

pub returns : goal.returns
unfolding line_e
returns c =
    let e = rw (c.from-2.ensures, c.from.ensures) at c.put_pair.ensures in
    writes_within (line_e_length _ _ c.requires.0 (number_small c.args.why)) e
