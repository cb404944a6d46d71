-- `panel::output::put_r` meets its contract: the bytes are the line.
-- Assumes nothing.
use Rattle.panel.specs.Answer.{line_r}
use Rattle.panel.proofs.output.put_r.Goals as goal

pub returns : goal.returns
unfolding line_r
returns c = rw (← c.hex_digit.ensures, ← c.hex_digit-2.ensures, ← c.hex_digit-3.ensures) c.put_all.ensures
