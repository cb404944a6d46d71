-- The statements of the two calls by a format's number settle their results, as those by the format do.
-- Assumes nothing.
use mathlib.Core.Path.{◌≡◌}
use mathlib.Core.List.{List}
use Prim.Native.Nat.{ℕ}
use Rattle.pbm.specs.declared.answer.Answer.{Answer}
use Rattle.pbm.specs.Calls.{written_out, read_in, Leaves}
use Rattle.pbm.proofs.Settled.{leaves_settles}
use Rattle.card.specs.Numbered.{numbered}

pub write_pbm_settled : (n : ℕ) (picture buffer : List ℕ) {r q : Answer} {m k : List ℕ}
    → Leaves (numbered written_out n picture buffer) r m → Leaves (numbered written_out n picture buffer) q k → (r ≡ q) × (m ≡ k)
write_pbm_settled n picture buffer = leaves_settles

pub read_pbm_settled : (n : ℕ) (text picture : List ℕ) {r q : Answer} {m k : List ℕ}
    → Leaves (numbered read_in n text picture) r m → Leaves (numbered read_in n text picture) q k → (r ≡ q) × (m ≡ k)
read_pbm_settled n text picture = leaves_settles
