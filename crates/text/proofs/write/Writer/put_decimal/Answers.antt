-- `text::write::Writer::put_decimal` meets its contract: the last two digits stand behind the others.
-- Assumes nothing.
use Prim.Native.Nat.{◌/◌}
use native.Mathlib.Omega.{arith}
use Rattle.text.proofs.Decimals.{decimal_hundreds, decimal_length}
use Rattle.text.proofs.Writing.{writes_more, writes_within}
use Rattle.text.proofs.write.Writer.put_decimal.Goals as goal

pub put_three-requires : goal.put_three-requires
put_three-requires c = (c.if-n-lt1000.true, omega (arith, c.requires.1, decimal_length c.args.n 2 c.if-n-lt1000.true))

pub returns-then-n-lt1000 : goal.returns-then-n-lt1000
returns-then-n-lt1000 c = writes_within (omega (arith, decimal_length c.args.n 4 (omega arith))) c.put_three.ensures

pub put_three-requires-2 : goal.put_three-requires-2
put_three-requires-2 c = (omega arith, omega (arith, c.requires.1, decimal_length (c.args.n / 100) 2 (omega arith)))

pub put_all-requires : goal.put_all-requires
put_all-requires c =
    let w = c.put_three-2.ensures.wrote in
    (omega arith, omega (arith, c.requires.1, w.end, w.size, decimal_length (c.args.n / 100) 2 (omega arith)))

pub returns : goal.returns
returns c =
    let both = writes_more c.put_three-2.ensures c.put_all.ensures in
    writes_within (decimal_length c.args.n 4 c.requires.0)
    (rw (decimal_hundreds c.args.n (omega arith), ← c.digit.ensures, ← c.digit-2.ensures) both)
