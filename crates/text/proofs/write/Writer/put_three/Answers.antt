-- `text::write::Writer::put_three` meets its contract: three digits, two or one.
-- Assumes nothing.
use mathlib.Core.Path.{ap}
use native.Mathlib.Omega.{arith}
use lib.ListN.{length}
use Rattle.text.proofs.Decimals.{decimal_one, decimal_two, decimal_three}
use Rattle.text.proofs.write.Writer.put_three.Goals as goal

pub put_all-requires : goal.put_all-requires
put_all-requires c = (omega arith, omega (arith, c.requires.1, ap length (decimal_three c.args.n c.if-n-ge100.true c.requires.0)))

pub returns-then-n-ge100 : goal.returns-then-n-ge100
returns-then-n-ge100 c =
    rw (decimal_three c.args.n c.if-n-ge100.true c.requires.0, ← c.digit.ensures, ← c.digit-then-n-ge100.ensures, ← c.digit-then-n-ge100-2.ensures)
    c.put_all.ensures

pub put_all-requires-then-n-ge10 : goal.put_all-requires-then-n-ge10
put_all-requires-then-n-ge10 c = (omega arith, omega (arith, c.requires.1, ap length (decimal_two c.args.n c.if-n-ge10.true c.if-n-ge100.false)))

pub returns-then-n-ge10 : goal.returns-then-n-ge10
returns-then-n-ge10 c =
    rw (decimal_two c.args.n c.if-n-ge10.true c.if-n-ge100.false, ← c.digit-then-n-ge10.ensures, ← c.digit-then-n-ge10-2.ensures)
    c.put_all-then-n-ge10.ensures

pub put-requires : goal.put-requires
put-requires c = omega (arith, c.requires.1, ap length (decimal_one c.args.n c.if-n-ge10.false))

pub returns : goal.returns
returns c = rw (decimal_one c.args.n c.if-n-ge10.false, ← c.digit-2.ensures) c.put.ensures
