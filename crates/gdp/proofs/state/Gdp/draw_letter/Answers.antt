-- `gdp::state::Gdp::draw_letter` meets its contract: the body is drawn with the five bytes that are the code's glyph.
-- Assumes nothing.
use mathlib.Core.Path.{◌≡◌}
use Rattle.rules.specs.Figure.{tables, glyph}
use Rattle.gdp.proofs.state.Gdp.draw_letter.Goals as goal
use Rattle.gdp.proofs.state.Gdp.draw_letter.Goals.{Joined-self, then-self, else-self}

pub glyph-part-requires : goal.glyph-part-requires
glyph-part-requires c =
    let t = c.requires.granted.1 in
    (t.low c.if-self.false, t.high c.if-self.false)

pub draw_body-requires : goal.draw_body-requires
draw_body-requires c =
    record {
      screen = rw c.tip-t.ensures c.requires.screen;
      granted = (c.requires.granted.0, rw c.run-run.ensures c.requires.granted.2);
    }

-- the part is the code's glyph
part : (c : Joined-self) → c.if-self.part.now ≡ glyph (tables c.args.table.now) c.args.self.code
unfolding glyph
part c =
    elim c.if-self.branch [
      | then-self w ↦ rw (w.part-is, w.if-self.true) c.solid_glyph-solid.ensures
      | else-self w ↦ rw (w.part-is, w.if-self.false) w.glyph-part.ensures
    ]

pub returns : goal.returns
returns c = rw (c.tip-t.ensures, c.run-run.ensures, part (goal.at.returns c).Joined-self) at c.draw_body.ensures
