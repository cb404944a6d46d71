-- `pbm::head::read_numbers` meets its contract: by the cases of what it reads.
-- Assumes nothing.
use Rattle.std.proofs.Common.{rules}
use Rattle.pbm.proofs.Headings.{unmarked, no_width, no_height, both_numbers}
use Rattle.pbm.proofs.head.read_numbers.Goals as goal

pub returns-in_err-left : goal.returns-in_err-left
returns-in_err-left c = let none = unmarked _ c.in_err-left.ensures in search rules

pub returns-in_err-width : goal.returns-in_err-width
returns-in_err-width c =
    let none = no_width _ c.in_ok-left.ensures c.pass.ensures c.in_err-width.ensures in
    search rules

pub returns-in_err-height : goal.returns-in_err-height
returns-in_err-height c =
    let none =
    no_height _ c.in_ok-left.ensures c.pass.ensures c.in_ok-width.ensures c.pass-2.ensures
    c.in_err-height.ensures
    in
    search rules

pub returns : goal.returns
returns c =
    both_numbers _ c.in_ok-left.ensures c.pass.ensures c.in_ok-width.ensures c.pass-2.ensures
    c.in_ok-height.ensures
