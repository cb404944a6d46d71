-- `drawing::column::draw_bands` meets its contract.
-- Assumes nothing.
use mathlib.Core.Path.{◌≡◌, refl}
use Prim.Native.Nat.{◌/◌}
use native.Mathlib.Nat.{zero-mul, add-mul, one-mul}
use native.Mathlib.Omega.{arith}
use Rattle.drawing.proofs.Runs.{none, more, size}
use Rattle.drawing.proofs.Bands.{back_at, row_at, row_here}
use Rattle.drawing.proofs.column.draw_bands.Goals as goal

pub loop-row-init : goal.loop-row-init
loop-row-init c = (simp zero-mul, none refl)

pub overflow_sub-at : goal.overflow_sub-at
overflow_sub-at c =
    let l = c.loop-row in
    back_at c.args.s l.d c.args.from l.row l.invariant.0 (c.requires.paintable.back l.row c.loop-row-test.true)

pub touch_rows-requires : goal.touch_rows-requires
touch_rows-requires c =
    let l = c.loop-row in
    let same = size l.invariant.1 in
    record {
      down_value = (c.requires.sized.0, c.requires.paintable.near, rw same c.requires.sized.1);
      by_index = λ r h. rw (same, ← row_at c.args.s l.d c.args.from l.row l.invariant.0) (c.requires.paintable.inside l.row c.loop-row-test.true r h);
    }

pub overflow_add-d : goal.overflow_add-d
overflow_add-d c =
    let l = c.loop-row in
    omega (arith, c.requires.paintable.inside l.row c.loop-row-test.true 0 c.requires.paintable.some, row_at c.args.s l.d c.args.from l.row l.invariant.0, c.requires.sized.1, c.requires.paintable.soon)

pub loop-row-preserved : goal.loop-row-preserved
loop-row-preserved c =
    let a = c.args in
    let l = c.loop-row in
    let far = back_at a.s l.d a.from l.row l.invariant.0 (c.requires.paintable.back l.row c.loop-row-test.true) in (
      simp (add-mul, one-mul) (omega (arith, l.invariant.0)),
      more l.invariant.1 refl (row_here a.s l.d a.from l.row l.invariant.0 a.t a.glyph.now a.column c.has_ink-on.ensures) c.touch_rows.ensures,
    )

pub returns : goal.returns
returns c =
    let l = c.loop-row in
    let all : l.row ≡ c.args.letter.body.rows / c.args.letter.body.q = omega arith in
    rw all at l.invariant.1.picture
