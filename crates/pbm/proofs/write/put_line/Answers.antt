-- `pbm::write::put_line` meets its contract.
-- Assumes nothing.
use Rattle.std.proofs.Common.{◌*◌, arith}
use Rattle.text.proofs.Laws.{writes_none, writes_more}
use Rattle.pbm.specs.File.{signs}
use Rattle.pbm.proofs.Files.{signs_byte, signs_length}
use Rattle.pbm.proofs.write.put_line.Goals as goal

pub loop-byte-init : goal.loop-byte-init
unfolding signs
loop-byte-init c = writes_none

pub put_eight-requires : goal.put_eight-requires
put_eight-requires c =
    let w = c.loop-byte.invariant.wrote in
    omega (arith, w.end, w.size, signs_length c.args.eight.now 0 (8 * c.loop-byte.byte-index))

pub loop-byte-preserved : goal.loop-byte-preserved
loop-byte-preserved c =
    rw (signs_byte c.args.eight.now c.loop-byte.byte-index) (writes_more c.loop-byte.invariant c.put_eight.ensures)

pub put-requires : goal.put-requires
put-requires c =
    let w = c.loop-byte.invariant.wrote in
    omega (arith, w.end, w.size, signs_length c.args.eight.now 0 (8 * c.loop-byte.byte-index))
