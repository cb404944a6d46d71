use Rattle.picture.proofs.Screens.{place_in, place_above, place_beside}
use Rattle.picture.proofs.screen.put_dot.Goals as goal

pub returns-then-py-w : goal.returns-then-py-w
returns-then-py-w c =
    let a = c.args in
    let col = c.fold-px.ensures in
    let row = c.fold-py.ensures in
    rw (place_in a.w a.x a.y (rw col at c.if-px-w.true) (rw row at c.if-py-w.true), ← col, ← row)
    c.mark.ensures

pub returns-else-py-w : goal.returns-else-py-w
returns-else-py-w c = let a = c.args in rw (place_above a.w a.x a.y (rw c.fold-py.ensures at c.if-py-w.false))

pub returns-else-px-w : goal.returns-else-px-w
returns-else-px-w c = let a = c.args in rw (place_beside a.w a.x a.y (rw c.fold-px.ensures at c.if-px-w.false))
