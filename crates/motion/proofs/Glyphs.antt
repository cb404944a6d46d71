-- The laws of glyphs.
-- Assumes nothing.
use mathlib.Core.Path.{◌≡◌, sym, ap, ap₂, ◌∙◌}
use mathlib.Core.Logic.{⊎_elim}
use mathlib.Core.Bool.{◌&&◌}
use Prim.Native.Nat.{ℕ, ◌%◌}
use native.Mathlib.Omega.{arith}
use lib.Dec.{ltb}
use lib.ListN.{get_or, get_or-replicate}
use borrow.Author.Tests.{ltb-true}
use Rattle.picture.specs.Bit.{bit_at}
use Rattle.basis.proofs.Cases.{split}
use Rattle.picture.proofs.Laws.{all_ones}
use Rattle.motion.specs.Glyph.{solid_glyph, inked}

-- the solid glyph has every dot of its five columns
pub solid_inked : (column row : ℕ) → inked solid_glyph column row ≡ ltb column 5
unfolding solid_glyph inked
solid_inked column row =
    ⊎_elim
    (λ t. let byte : get_or solid_glyph column 0 ≡ 255 = get_or-replicate {A = ℕ} 5 column 255 0 (ltb-true column 5 t) in
    ap₂ ◌&&◌ t (ap (bit_at (row % 8)) byte ∙ all_ones (row % 8) (omega arith)) ∙ sym t)
    (λ t. rw t)
    (split (ltb column 5))
