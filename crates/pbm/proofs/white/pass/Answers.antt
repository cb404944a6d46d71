-- `pbm::white::pass` meets its contract: by what each byte does.
-- Assumes nothing.
use Rattle.std.proofs.Common.{sym, ◌∙◌}
use Rattle.std.proofs.Math.ListN.{drop_of_length-le}
use Rattle.std.proofs.lemmas.List.{at_drop_more}
use Rattle.pbm.specs.Contents.{passed}
use Rattle.pbm.proofs.Passing.{rest_at, passed_end, passed_comment, passed_hash, passed_white, sign_stays}
use Rattle.pbm.proofs.white.pass.Goals as goal
use Rattle.pbm.proofs.white.pass.Goals.{then-comment, else-comment+then-b-eq35, else-comment+else-b-eq35+else-not-is_white}

pub returns-then-not-is_white : goal.returns-then-not-is_white
returns-then-not-is_white c =
    let s = c.args.left.now in
    let i = c.loop-i.i in
    rest_at s i
    ∙ sym ((rw c.if-comment.false at c.loop-i.invariant)
    ∙ sign_stays s i c.loop-i-test.true (sym c.is_white.ensures ∙ c.if-not-is_white.true) c.if-b-eq35.false)

pub loop-i-preserved : goal.loop-i-preserved
loop-i-preserved c =
    let next = c.loop-i.invariant ∙ at_drop_more (passed c.loop-i.comment) c.args.left.now c.loop-i.i 0 c.loop-i-test.true in
    elim c.if-comment.branch [
      | then-comment w ↦ rw w.comment-is ((rw w.if-comment.true at next) ∙ passed_comment _ _)
      | else-comment+then-b-eq35 w ↦ rw w.comment-is ((rw w.if-comment.false at next) ∙ passed_hash _ _ w.if-b-eq35.true)
      | else-comment+else-b-eq35+else-not-is_white w ↦
          let white = sym w.is_white.ensures ∙ w.if-not-is_white.false in
          rw (w.comment-is, w.if-comment.false) ((rw w.if-comment.false at next) ∙ passed_white _ _ white)
    ]

pub returns : goal.returns
returns c = sym (c.loop-i.invariant ∙ rw (drop_of_length-le c.args.left.now {i = c.loop-i.i} c.loop-i-test.false, passed_end))
