-- `panel::output::put_g` meets its contract: the pieces, one behind the other, are the line.
-- Assumes nothing.
use mathlib.Core.Path.{◌≡◌, refl}
use native.Mathlib.Omega.{arith}
use lib.ListN.{length}
use Rattle.text.specs.Numbers.{decimal, decimal_by}
use Rattle.panel.specs.Answer.{line_g}
use Rattle.text.proofs.Laws.{writes_more}
use Rattle.panel.proofs.output.put_g.Goals as goal

-- the number has four digits
four : length (decimal 9366) ≡ 4
unfolding decimal decimal_by
four = refl

pub put-requires : goal.put-requires
put-requires c =
    let l = c.put_letter.ensures.wrote in
    let d = c.put_decimal.ensures.0.wrote in
    omega (arith, c.requires, l.end, l.size, d.end, d.size, four)

pub returns : goal.returns
unfolding line_g decimal decimal_by
returns c = writes_more c.put_letter.ensures (writes_more c.put_decimal.ensures.0 c.put.ensures)
