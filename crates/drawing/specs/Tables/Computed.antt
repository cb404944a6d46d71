-- `unfolding computed` opens every definition of this crate and of those below, for what is proved by computation.
-- Assumes nothing.
use Rattle.basis.specs.Reading.{computed as reading}
use Rattle.picture.specs.Tables.Computed.{computed as of-picture}
use Rattle.motion.specs.Tables.Computed.{computed as of-motion}
use Rattle.drawing.specs.Figure.{cycles_of, way, end_way, writes}
use Rattle.drawing.specs.Run.{start_of, place_of, rest_of, mark, dot_of, dots_from}
use Rattle.drawing.specs.Tables.Figures.{stroke, cells, again, pair, pairs, counts, ways, glyph, column0, column1, column2, column3, column4, wrote, stretched, writing}
use Rattle.drawing.specs.Tables.Runs.{flat, steep, body, turned, tilted, tilted_up, standing, large, standing_large, slanted_large, tip, pen, cyclic_pen, marks, drawn, drawings, slant_drawings}
use Rattle.drawing.specs.Tables.Readings.{readings}

unfoldable pub computed : Unit {0}
unfolding reading of-picture of-motion cycles_of way end_way writes start_of place_of rest_of mark dot_of dots_from stroke cells again pair pairs counts ways glyph column0 column1 column2 column3 column4 wrote stretched writing flat steep body turned tilted tilted_up standing large standing_large slanted_large tip pen cyclic_pen marks drawn drawings slant_drawings readings
computed = tt
