-- `picture::run::paint_byte` meets its contract: the byte of the dots, with their bits written.
-- Assumes nothing.
use Rattle.picture.proofs.Runs.{paint_byte}
use Rattle.picture.proofs.run.paint_byte.Goals as goal

pub returns : goal.returns
returns c =
    let a = c.args in
    rw c.with_bits.ensures (paint_byte a.lit a.d a.m a.pic.now c.requires.2 c.requires.1)
