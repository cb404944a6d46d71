-- `picture::dot::with_bit` meets its contract: `|` with the mask makes the bit 1, `&` with its complement makes it 0.
-- Assumes nothing.
use Rattle.picture.proofs.Masks.{or_bit, and_bit, mask}
use Rattle.picture.proofs.dot.with_bit.Goals as goal

pub returns-then-lit : goal.returns-then-lit
returns-then-lit c =
    let a = c.args in
    rw (mask a.k c.requires, c.if-lit.true, or_bit a.k a.v)

pub returns-else-lit : goal.returns-else-lit
returns-else-lit c =
    let a = c.args in
    rw (mask a.k c.requires, c.if-lit.false, and_bit 8 a.k a.v c.requires c.ranges.v.fits)
