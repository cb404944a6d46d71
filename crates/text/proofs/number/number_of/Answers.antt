-- `text::number::number_of` meets its contract.
-- Assumes nothing.
use mathlib.Core.Path.{refl}
use native.Mathlib.Omega.{arith}
use borrow.Author.Rules.{rules}
use Rattle.text.proofs.Numbers.{digit_some, digit_none, too_short, too_long, fits, passed_more, passed_bad, taken_all, taken_none}
use Rattle.text.proofs.number.number_of.Goals as goal
use Rattle.text.proofs.number.number_of.Goals.{then-is_empty-via-then-is_empty, then-is_empty-via-else-is_empty+then-most-f}

pub returns-then-is_empty : goal.returns-then-is_empty
returns-then-is_empty c =
    elim c.then-is_empty.branch [
      | then-is_empty-via-then-is_empty w ↦ taken_none c.requires.0 (too_short _ _ _ (search rules))
      | then-is_empty-via-else-is_empty+then-most-f w ↦ taken_none c.requires.0 (too_long _ _ _ w.if-most-f.true)
    ]

pub overflow_mul-n : goal.overflow_mul-n
overflow_mul-n c =
    omega (arith, fits c.loop-b.invariant c.requires.1 (omega arith))

pub returns-in_err-n : goal.returns-in_err-n
returns-in_err-n c =
    rw c.from_residual.ensures (taken_none c.requires.0 (passed_bad c.loop-b.invariant _ c.loop-b-test.true refl (digit_none _ _ c.in_err-n.ensures)))

pub overflow_add-n : goal.overflow_add-n
overflow_add-n c =
    let d = digit_some _ _ _ c.in_ok-n.ensures in
    omega (arith, fits c.loop-b.invariant c.requires.1 (omega arith))

pub loop-b-preserved : goal.loop-b-preserved
loop-b-preserved c =
    let d = digit_some _ _ _ c.in_ok-n.ensures in
    passed_more c.loop-b.invariant c.loop-b-test.true d.0 d.1

pub returns : goal.returns
returns c =
    taken_all c.loop-b.invariant c.requires.0 c.loop-b-test.false (search rules) (omega arith)
