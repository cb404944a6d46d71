-- `pbm::signs::below` meets its contract: by a dot's bit.
-- Assumes nothing.
use Rattle.pbm.proofs.Eights.{dot_digit}
use Rattle.pbm.proofs.signs.below.Goals as goal

pub overflow_sub-result : goal.overflow_sub-result
overflow_sub-result c = (dot_digit c.args.b c.requires.0).0
