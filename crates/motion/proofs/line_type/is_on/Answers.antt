-- `motion::line_type::is_on` meets its contract: below a power of two a mask is the remainder, and a bit is read by a shift.
-- Assumes nothing.
use Prim.Native.Nat.{◌%◌}
use Rattle.picture.proofs.Laws.{bit_shift, fold_mask}
use Rattle.motion.specs.Working.Masks.{dashed}
use Rattle.motion.proofs.line_type.is_on.Goals as goal

pub returns : goal.returns
unfolding dashed
returns c =
    let t = c.args.t in
    rw (fold_mask t.period c.args.i c.requires.power, bit_shift (c.args.i % t.period) t.mask)
