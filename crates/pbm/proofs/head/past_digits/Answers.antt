-- `pbm::head::past_digits` meets its contract.
-- Assumes nothing.
use Rattle.std.proofs.Common.{[], refl, sym, ◌∙◌}
use Rattle.std.proofs.Math.ListN.{drop_of_length-le}
use Rattle.std.proofs.lemmas.List.{drop_more}
use Rattle.text.proofs.Laws.{digit_some, digit_none}
use Rattle.pbm.proofs.Passing.{rest_at}
use Rattle.pbm.proofs.Wholes.{no_digit, behind_one, none_first, other_first}
use Rattle.pbm.proofs.head.past_digits.Goals as goal

pub returns-in_default : goal.returns-in_default
returns-in_default c =
    let s = c.args.left.now in
    let here = drop_more s c.loop-i.i 0 c.loop-i-test.true in
    rest_at s c.loop-i.i
    ∙ sym (c.loop-i.invariant ∙ (no_digit _ (other_first here (digit_none 10 _ c.in_default.ensures))).1)

pub loop-i-preserved : goal.loop-i-preserved
loop-i-preserved c =
    c.loop-i.invariant
    ∙ behind_one _ _ _ (digit_some 10 _ _ c.in-Some.ensures) (drop_more c.args.left.now c.loop-i.i 0 c.loop-i-test.true)

pub returns : goal.returns
returns c =
    let end = drop_of_length-le c.args.left.now {i = c.loop-i.i} c.loop-i-test.false in
    sym ((rw end at c.loop-i.invariant) ∙ (no_digit [] (none_first [] refl)).1)
