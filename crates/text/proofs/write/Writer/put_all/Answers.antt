-- `text::write::Writer::put_all` meets its contract: so many bytes more stand there.
-- Assumes nothing.
use mathlib.Core.Path.{◌≡◌, refl}
use native.Mathlib.Omega.{arith}
use lib.ListN.{length}
use borrow.Author.Rules.{rules}
use Rattle.text.proofs.Writing.{wrote_all}
use Rattle.text.proofs.write.Writer.put_all.Goals as goal

pub returns : goal.returns
returns g c =
    let same = c.copy_from_slice.ensures.after in
    let size : length c.args.bytes ≡ g.row.N = search rules in
    record { same = refl; wrote = rw same (wrote_all _ _ c.args.bytes (omega arith) (omega arith) c.requires) }
