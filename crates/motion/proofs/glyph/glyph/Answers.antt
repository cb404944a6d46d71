-- `motion::glyph::glyph` meets its contract: the five bytes from there on.
-- Assumes nothing.
use mathlib.Core.Path.{◌∙◌}
use native.Mathlib.Nat.{add-sub_cancel_left}
use Rattle.motion.specs.Glyph.{glyph_of}
use Rattle.motion.proofs.glyph.glyph.Goals as goal

pub returns : goal.returns
unfolding glyph_of
returns c =
    let whole = rw c.unwrap.ensures at c.as_array.ensures.cases in
    whole.same ∙ rw add-sub_cancel_left
