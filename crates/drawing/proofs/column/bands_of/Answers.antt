-- `drawing::column::bands_of` meets its contract.
-- Assumes nothing.
use mathlib.Core.Path.{◌≡◌, refl, ◌∙◌}
use mathlib.Core.Bool.{false}
use Prim.Native.Nat.{◌-◌, ◌≤◌}
use native.Mathlib.Nat.{mul-le-mul}
use native.Mathlib.Omega.{arith}
use Rattle.motion.specs.Character.{lying, along}
use Rattle.drawing.proofs.Bands.{stride_most}
use Rattle.drawing.proofs.column.bands_of.Goals as goal
use Rattle.drawing.proofs.column.bands_of.Goals.{Joined-letter-3, then-letter-3, else-letter-3}

pub overflow_mul-result : goal.overflow_mul-result
overflow_mul-result c =
    let less : c.args.width - 1 ≤ 524288 = omega (arith, c.requires.1) in
    omega (arith, mul-le-mul c.args.letter.sized.q16 less)

pub returns-then-letter-2 : goal.returns-then-letter-2
returns-then-letter-2 c = rw (c.if-letter.true, c.if-letter-2.true) refl

pub returns-then-letter : goal.returns-then-letter
returns-then-letter c = rw (c.if-letter.true, c.if-letter-2.false) refl

-- upright, the stride is a line, and tilted one dot more
up : (c : Joined-letter-3) → let a = c.args in c.if-letter-3.up ≡ along (lying false a.letter.lie.tilted) a.width 1
unfolding along
up c = elim c.if-letter-3.branch [ then-letter-3 w ↦ w.up-is ∙ rw w.if-letter-3.true refl | else-letter-3 w ↦ w.up-is ∙ rw w.if-letter-3.false (omega arith) ]

pub overflow_mul-result-2 : goal.overflow_mul-result-2
overflow_mul-result-2 c =
    let near = stride_most c.args.letter.lie.tilted c.args.width c.requires.1 in
    rw (up (goal.at.overflow_mul-result-2 c).Joined-letter-3) (omega (arith, mul-le-mul c.args.letter.sized.q16 near))

pub returns : goal.returns
returns c = rw (up (goal.at.returns c).Joined-letter-3, c.if-letter.false) refl
