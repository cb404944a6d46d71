-- `panel::parse::parse` meets its contract: the fields of the line are those that the cut at its second tab parts.
-- Assumes nothing.
use mathlib.Core.Path.{sym, ◌∙◌}
use Rattle.panel.proofs.Records.{short, untabbed, one_field, two_fields}
use Rattle.panel.proofs.parse.parse.Goals as goal

pub returns-in_default : goal.returns-in_default
returns-in_default c = sym (short _ c.in_default.len_below)

pub returns-then-tab-ne-TAB : goal.returns-then-tab-ne-TAB
returns-then-tab-ne-TAB c = sym (untabbed _ c.in-len2-up.len_at_least c.if-tab-ne-TAB.true)

pub returns-in-None : goal.returns-in-None
returns-in-None c =
    c.parse_one.ensures
    ∙ sym (one_field _ c.in-len2-up.len_at_least c.if-tab-ne-TAB.false _ c.cut.ensures c.in-None.is)

pub returns-in-Some : goal.returns-in-Some
returns-in-Some c =
    c.parse_two.ensures
    ∙ sym (two_fields _ c.in-len2-up.len_at_least c.if-tab-ne-TAB.false _ c.cut.ensures c.in-Some.is)
