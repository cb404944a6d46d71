-- `motion::glyph::solid_glyph` meets its contract.
-- Assumes nothing.
use mathlib.Core.Path.{refl}
use Rattle.motion.specs.Glyph.{solid_glyph}
use Rattle.motion.proofs.glyph.solid_glyph.Goals as goal

pub returns : goal.returns
unfolding solid_glyph
returns c = refl
