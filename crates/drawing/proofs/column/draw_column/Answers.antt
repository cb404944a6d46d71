-- `drawing::column::draw_column` meets its contract.
-- Assumes nothing.
use mathlib.Core.Path.{◌≡◌, refl, ◌∙◌}
use Prim.Native.Nat.{◌*◌, ◌≤◌}
use native.Mathlib.Nat.{zero-mul, add-mul, one-mul, mul-le-mul}
use native.Mathlib.Omega.{arith}
use Rattle.picture.proofs.Laws.{power_some, row_small}
use Rattle.drawing.proofs.Runs.{none, more, size, still}
use Rattle.drawing.proofs.Bands.{few_times, foot_low, paintable, column_painted}
use Rattle.drawing.proofs.Further.{up_column}
use Rattle.drawing.proofs.column.draw_column.Goals as goal
use Rattle.drawing.proofs.column.draw_column.Goals.{After-bands_of-s}

pub bands_of-s-requires : goal.bands_of-s-requires
bands_of-s-requires c =
    (power_some c.requires.screen.wide, (row_small c.args.t.window _ 0 c.requires.screen (omega arith)).1)

-- the numbers that the code goes through are small
small : (c : After-bands_of-s) → let a = c.args in let s = c.bands_of-s.result in
    (a.c.at.y * a.t.window.width ≤ 524288) × (a.t.window.width ≤ 524288) × (s.first ≤ 1) × (s.times ≤ 16)
small c =
    let a = c.args in
    let low = foot_low a.letter.lie.turned a.t _ a.letter.body a.c c.requires.foot.1.inside in
    let row = row_small a.t.window _ a.c.at.y c.requires.screen low in
    let few = few_times a.letter.lie.turned a.letter.lie.tilted a.letter.body a.t.window.width c.args.letter.sized in
    (row.0, row.1, rw c.bands_of-s.ensures few.0, rw c.bands_of-s.ensures few.1)

pub overflow_mul-d : goal.overflow_mul-d
overflow_mul-d c = omega (arith, small (goal.at.overflow_mul-d c).After-bands_of-s)

pub overflow_add-d : goal.overflow_add-d
overflow_add-d c = omega (arith, small (goal.at.overflow_add-d c).After-bands_of-s)

pub overflow_add-d-then-t : goal.overflow_add-d-then-t
overflow_add-d-then-t c = omega (arith, small (goal.at.overflow_add-d-then-t c).After-bands_of-s)

pub loop-init : goal.loop-init
loop-init c = (rw zero-mul (omega arith), none refl)

pub draw_bands-requires : goal.draw_bands-requires
draw_bands-requires c =
    let a = c.args in
    let l = c.loop in
    let screen = still l.invariant.1 c.requires.screen in
    let by = c.bands_of-s.ensures in
    let left = rw by at c.loop-test.true in record {
      sized = (c.if-t.true, screen.small);
      paintable = rw (l.invariant.0, by) (paintable a.t a.letter.body a.c c.args.letter.sized screen a.letter.lie.turned a.letter.lie.tilted c.requires.foot.1.inside l.counter left);
    }

pub overflow_add-d-in-loop : goal.overflow_add-d-in-loop
overflow_add-d-in-loop c =
    let low = small (goal.at.overflow_add-d-in-loop c).After-bands_of-s in
    let few : c.loop.counter ≤ 16 = omega (arith, low) in
    omega (arith, c.loop.invariant.0, low, mul-le-mul few low.1)

pub loop-preserved : goal.loop-preserved
loop-preserved c =
    let l = c.loop in
    (simp (add-mul, one-mul) (omega (arith, l.invariant.0)), more l.invariant.1 refl refl (c.draw_bands.ensures ∙ rw l.invariant.0))

pub shape_of-pic : goal.shape_of-pic
shape_of-pic c = size c.loop.invariant.1

pub returns-after-loop : goal.returns-after-loop
returns-after-loop c start place =
    let a = c.args in
    let l = c.loop in
    let all : l.counter ≡ c.bands_of-s.result.times = omega arith in
    (rw (all, c.bands_of-s.ensures) at l.invariant.1.picture)
    ∙ column_painted a.t a.letter.lie a.glyph.now start c.args.letter.sized c.requires.screen c.requires.foot.0 c.requires.foot.1 place a.pic.now

pub returns-else-t : goal.returns-else-t
returns-else-t c =
    let a = c.args in
    up_column a.t a.letter.lie a.letter.body a.glyph.now a.c a.pic.now c.if-t.false
