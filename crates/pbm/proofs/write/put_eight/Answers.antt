-- `pbm::write::put_eight` meets its contract.
-- Assumes nothing.
use Rattle.std.proofs.Common.{◌≡◌, arith}
use Rattle.text.proofs.Laws.{writes_more}
use Rattle.pbm.specs.Working.Bytes.{eight_signs}
use Rattle.pbm.proofs.Files.{next_sign}
use Rattle.pbm.proofs.write.put_eight.Goals as goal

pub loop-k-preserved : goal.loop-k-preserved
loop-k-preserved c = rw (next_sign c.args.v c.loop-k.k c.loop-k-test.true) (writes_more c.loop-k.invariant c.put_sign.ensures)

pub returns : goal.returns
unfolding eight_signs
returns c =
    let all : c.loop-k.k ≡ 8 = omega arith in
    rw all at c.loop-k.invariant
