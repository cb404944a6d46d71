-- `pbm::write::put_head` meets its contract: the pieces, one behind the other, are the head.
-- Assumes nothing.
use Rattle.text.proofs.Laws.{writes_more}
use Rattle.pbm.specs.File.{head}
use Rattle.pbm.proofs.write.put_head.Goals as goal

pub returns : goal.returns
unfolding head
returns c =
    rw (c.from.ensures, c.from-2.ensures) at
    (writes_more c.put_all.ensures
    (writes_more c.put_decimal.ensures.0 (writes_more c.put.ensures (writes_more c.put_decimal-2.ensures.0 c.put-2.ensures))))
