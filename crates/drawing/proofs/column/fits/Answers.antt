-- `drawing::column::fits` meets its contract: `true` comes out only past the tests.
-- Assumes nothing.
use Prim.Native.Nat.{◌-◌}
use native.Mathlib.Omega.{arith}
use Rattle.motion.specs.Character.{along}
use Rattle.drawing.proofs.Columns.{lean_least}
use Rattle.drawing.proofs.column.fits.Goals as goal

pub along-far-requires : goal.along-far-requires
along-far-requires c =
    (omega (arith, c.args.letter.sized.p16), omega (arith, c.args.letter.sized.rows128))

pub inside-requires : goal.inside-requires
unfolding along
inside-requires c =
    let lean = lean_least c.args.letter.lie.tilted (c.args.letter.body.rows - 1) in
    (omega (arith, c.args.letter.sized.rows128), omega (arith, c.along-far.ensures, lean, c.args.letter.sized.p16, c.args.letter.sized.rows128))

pub inside-requires-2 : goal.inside-requires-2
unfolding along
inside-requires-2 c =
    let lean = lean_least c.args.letter.lie.tilted (c.args.letter.body.rows - 1) in
    (omega (arith, c.along-far.ensures, lean, c.args.letter.sized.p16, c.args.letter.sized.rows128), omega (arith, c.args.letter.sized.rows128))

pub returns-then-letter : goal.returns-then-letter
returns-then-letter c e =
    rw (← c.along-far.ensures, c.if-letter.true) (omega (arith, c.if-b-c.false), c.inside.ensures e)

pub returns : goal.returns
returns c e = rw (← c.along-far.ensures, c.if-letter.false) (c.inside-2.ensures e)
