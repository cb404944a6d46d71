-- `pbm::read::read_pbm` meets its contract: each refusal in turn, and else the picture is shown.
-- Assumes nothing.
use Rattle.std.proofs.Common.{◌≡◌, Err, sym, ◌∙◌, rules}
use Rattle.pbm.proofs.Answers.{wrong_length, head_refused, wrong_dots, lines_good, all_right}
use Rattle.pbm.proofs.read.read_pbm.Goals as goal

pub returns-then-pic-bytes_of : goal.returns-then-pic-bytes_of
returns-then-pic-bytes_of c = wrong_length _ _ _ (λ e. c.if-pic-bytes_of.true (e ∙ sym c.bytes_of.ensures))

pub returns-in_err-dots : goal.returns-in_err-dots
returns-in_err-dots c =
    let why = c.in_err-dots.field-0.0 in
    let is : c.from_residual.result ≡ Err why = search rules in
    let size = c.if-pic-bytes_of.false ∙ c.bytes_of.ensures in
    rw is (head_refused _ _ _ size c.width_of-width.ensures c.height_of-height.ensures why c.in_err-dots.ensures)

pub returns-then-not-are_dots : goal.returns-then-not-are_dots
returns-then-not-are_dots c =
    let size = c.if-pic-bytes_of.false ∙ c.bytes_of.ensures in
    wrong_dots _ _ _ size c.width_of-width.ensures c.height_of-height.ensures c.in_ok-dots.ensures
    (sym c.are_dots.ensures ∙ c.if-not-are_dots.true)

pub show-requires : goal.show-requires
show-requires c =
    let size = c.if-pic-bytes_of.false ∙ c.bytes_of.ensures in
    let good =
    lines_good _ _ _ size c.width_of-width.ensures c.height_of-height.ensures c.in_ok-dots.ensures
    (rw c.width_of-width.ensures at c.from.ensures) (c.from-2.ensures ∙ c.height_of-height.ensures)
    (sym c.are_dots.ensures ∙ c.if-not-are_dots.false)
    in
    record { whole = good.0; dots = good.1 }

pub returns : goal.returns
returns c =
    let size = c.if-pic-bytes_of.false ∙ c.bytes_of.ensures in
    all_right _ _ _ size c.width_of-width.ensures c.height_of-height.ensures c.in_ok-dots.ensures
    (rw c.width_of-width.ensures at c.from.ensures) (c.from-2.ensures ∙ c.height_of-height.ensures)
    (sym c.are_dots.ensures ∙ c.if-not-are_dots.false) c.show.ensures
