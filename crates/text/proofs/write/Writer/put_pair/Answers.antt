-- `text::write::Writer::put_pair` meets its contract: the pieces, one behind the other, are the line.
-- Assumes nothing.
use borrow.Author.Rules.{rules}
use Rattle.text.proofs.Writing.{writes_more}
use Rattle.text.proofs.write.Writer.put_pair.Goals as goal

pub returns : goal.returns
returns c =
    let line = writes_more c.put_letter.ensures (writes_more c.put_decimal.ensures.0 (writes_more c.put.ensures (writes_more c.put_decimal-2.ensures.0 c.put-2.ensures))) in
    search rules
