-- `unfolding computed` opens every definition of this crate and of those below, for what is proved by computation.
-- Assumes nothing.
use Rattle.basis.specs.Reading.{computed as reading}
use Rattle.picture.specs.Tables.Computed.{computed as of-picture}
use Rattle.motion.specs.Position.{moved, moved_back}
use Rattle.motion.specs.LineType.{line_on}
use Rattle.motion.specs.Vector.{given_x, given_y, length_x, length_y, minus_x, minus_y, line_of, vector_cycles, offset, along_x, along_y, vector_x, vector_y, dist}
use Rattle.motion.specs.Character.{scale, scale_p, scale_q, character_of, block_of, body_cycles, u_of, v_of, column_of, row_of, along, laid, body_way, body_end}
use Rattle.motion.specs.Glyph.{glyph_of, solid_glyph, inked}
use Rattle.motion.specs.Tables.Positions.{again, pair, edges, steps, distances, places, dots, dash_dot, line_types}
use Rattle.motion.specs.Tables.Vectors.{codes, signs, given, fan_x, fan_y, lengths, long_wide, long_tall, shortest, steep_wide, steep_tall, longs, shorts, steeps, short_longs, short_shorts, short_steeps, lines, vector_codes}
use Rattle.motion.specs.Tables.Lines.{whole, offsets, line, counts, goes, eight_ways, less, ways, apart}
use Rattle.motion.specs.Tables.Characters.{by_upper, by_lower, halves, fourfold, sixfold, eightfold, products, sizes, body, stairs, up_to, cycles, letter, box, largest, narrow, broad, some, straight, upwards, slanted, slanted_up, xs, ys, cells, down_to, slope, cell_ways, slants, dots_of, glyphs}
use Rattle.motion.specs.Tables.Readings.{readings}

unfoldable pub computed : Unit {0}
unfolding reading of-picture moved moved_back line_on given_x given_y length_x length_y minus_x minus_y line_of vector_cycles offset along_x along_y vector_x vector_y dist scale scale_p scale_q character_of block_of body_cycles u_of v_of column_of row_of along laid body_way body_end glyph_of solid_glyph inked again pair edges steps distances places dots dash_dot line_types codes signs given fan_x fan_y lengths long_wide long_tall shortest steep_wide steep_tall longs shorts steeps short_longs short_shorts short_steeps lines vector_codes whole offsets line counts goes eight_ways less ways apart by_upper by_lower halves fourfold sixfold eightfold products sizes body stairs up_to cycles letter box largest narrow broad some straight upwards slanted slanted_up xs ys cells down_to slope cell_ways slants dots_of glyphs readings
computed = tt
