-- `drawing::letters::go_on` meets its contract, by a whole column or by one cycle.
-- Assumes nothing.
use native.Mathlib.Nat.{mul-le-mul}
use native.Mathlib.Omega.{arith}
use Rattle.drawing.proofs.Further.{within, one_further, column_further}
use Rattle.drawing.proofs.letters.go_on.Goals as goal

pub draw_column-requires : goal.draw_column-requires
draw_column-requires g c =
    let w = c.is_whole.ensures c.if-is_whole.true in
    record {
      screen = c.requires.screen;
      foot = (c.requires.counts.0, w.column);
    }

pub next_column-requires : goal.next_column-requires
next_column-requires g c =
    let w = c.is_whole.ensures c.if-is_whole.true in
    (c.requires.counts.0, w.column.foot, w.column.first, omega (arith, w.granted))

pub returns-then-is_whole : goal.returns-then-is_whole
returns-then-is_whole g c =
    let w = c.is_whole.ensures c.if-is_whole.true in
    let size = c.args.letter.sized in
    let next = c.next_column.ensures in
    let some = mul-le-mul size.p0 size.rows0 in
    (omega (arith, next.0, some), within (omega (arith, next.0, w.granted)) (column_further c.draw_column.ensures next))

pub returns : goal.returns
returns g c =
    let next = c.next_cell.ensures in (
      omega (arith, next.0),
      within (omega (arith, next.0)) (one_further c.requires.counts.0 c.has_ink-on.ensures c.touch.ensures next),
    )
