-- `pbm::head::read_whole` meets its contract.
-- Assumes nothing.
use Rattle.std.proofs.Common.{[], refl, ap, ◌∙◌, ◌+◌, rules}
use Rattle.std.proofs.Math.ListN.{drop_of_length-le}
use Rattle.std.proofs.lemmas.List.{drop_more}
use Rattle.text.proofs.Laws.{digit_some, digit_none}
use Rattle.pbm.specs.Contents.{behind_digits}
use Rattle.pbm.proofs.Passing.{rest_at}
use Rattle.pbm.proofs.Wholes.{reading_one, reading_more, reading_large, reading_stop, none_first, other_first}
use Rattle.pbm.proofs.head.read_whole.Goals as goal

pub returns-in_err-first : goal.returns-in_err-first
returns-in_err-first c = let none = none_first c.args.left.now c.in_err-first.ensures.cases in search rules

pub returns-in_err-n : goal.returns-in_err-n
returns-in_err-n c =
    let none = other_first c.in_ok-first.ensures.cases.0 (digit_none 10 _ c.in_err-n.ensures) in
    search rules

pub loop-i-init : goal.loop-i-init
loop-i-init c = reading_one _ _ _ (digit_some 10 _ _ c.in_ok-n.ensures) c.in_ok-first.ensures.cases.0

pub returns-in_default : goal.returns-in_default
returns-in_default c =
    let s = c.in_ok-first.rest.now in
    let here = drop_more s c.loop-i.i 0 c.loop-i-test.true in
    rw (rest_at s c.loop-i.i)
    (reading_stop c.loop-i.invariant (other_first here (digit_none 10 _ c.in_default.ensures)))

pub grown-n-requires : goal.grown-n-requires
grown-n-requires c = (c.loop-i.invariant.small, (digit_some 10 _ _ c.in-Some.ensures).1)

pub returns-then-n-eq-LARGE : goal.returns-then-n-eq-LARGE
returns-then-n-eq-LARGE c =
    let s = c.in_ok-first.rest.now in
    let more = reading_more _ _ _ (digit_some 10 _ _ c.in-Some.ensures) c.loop-i.invariant (drop_more s c.loop-i.i 0 c.loop-i-test.true) c.grown-n.ensures in
    reading_large more c.if-n-eq-LARGE.true (c.past_digits.ensures ∙ ap behind_digits (rest_at s (c.loop-i.i + 1)))

pub loop-i-preserved : goal.loop-i-preserved
loop-i-preserved c =
    reading_more _ _ _ (digit_some 10 _ _ c.in-Some.ensures) c.loop-i.invariant
    (drop_more c.in_ok-first.rest.now c.loop-i.i 0 c.loop-i-test.true) c.grown-n.ensures

pub returns : goal.returns
returns c =
    let end = drop_of_length-le c.in_ok-first.rest.now {i = c.loop-i.i} c.loop-i-test.false in
    reading_stop (rw end at c.loop-i.invariant) (none_first [] refl)
