-- `pbm::read::show_line` meets its contract.
-- Assumes nothing.
use Rattle.std.proofs.Common.{refl, arith}
use Rattle.pbm.proofs.Eights.{some_eight, eight_small}
use Rattle.pbm.proofs.Showing.{lined_none, lined_dots, lined_more}
use Rattle.pbm.proofs.read.show_line.Goals as goal

pub loop-byte-init : goal.loop-byte-init
loop-byte-init c = lined_none _ _ _ refl

pub unwrap-shown-requires : goal.unwrap-shown-requires
unwrap-shown-requires c =
    some_eight _ c.take_eight.result (lined_dots c.loop-byte.invariant c.loop-byte-test.true c.requires) c.take_eight.ensures

pub overflow_cast-byte : goal.overflow_cast-byte
overflow_cast-byte c = omega (arith, eight_small (rw c.unwrap-shown.ensures at c.take_eight.ensures))

pub loop-byte-preserved : goal.loop-byte-preserved
loop-byte-preserved c =
    lined_more c.loop-byte.invariant c.loop-byte-test.true (rw c.unwrap-shown.ensures at c.take_eight.ensures)
