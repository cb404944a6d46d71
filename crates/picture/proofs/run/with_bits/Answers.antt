-- `picture::run::with_bits` meets its contract: `|` with the mask makes the bits 1, `&` with its complement makes them 0.
-- Assumes nothing.
use mathlib.Core.Path.{ap, ◌∙◌}
use Prim.Native.Nat.{ℕ, ◌-◌}
use lib.Bits.{bit_and, bit_or}
use Rattle.picture.proofs.Masks.{or_bits, and_bits, mask_bits}
use Rattle.picture.proofs.run.with_bits.Goals as goal

pub returns-then-lit : goal.returns-then-lit
returns-then-lit c =
    let a = c.args in
    rw c.if-lit.true (ap (bit_or a.v) (mask_bits a.k a.m c.requires.1) ∙ or_bits a.k a.m a.v)

pub returns-else-lit : goal.returns-else-lit
returns-else-lit c =
    let a = c.args in
    rw c.if-lit.false
    (ap (λ (n : ℕ). bit_and a.v (255 - n)) (mask_bits a.k a.m c.requires.1)
    ∙ and_bits 8 a.k a.m a.v c.requires.1 c.ranges.v.fits)
