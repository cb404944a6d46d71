-- `card::gdp_write_pbm` meets its contract: it is crate pbm's call by a format's number.
-- Assumes nothing.
use mathlib.Core.Path.{sym, ◌∙◌}
use Rattle.pbm.specs.Calls.{written_out, told}
use Rattle.parts.specs.Refusal.{refusal_number}
use Rattle.card.proofs.Formats.{by_name, by_no_name, by_number, by_none}
use Rattle.card.proofs.gdp_write_pbm.Goals as goal

pub returns-in-Ok : goal.returns-in-Ok
returns-in-Ok c =
    let (low, own) = by_name (sym c.try_from.ensures ∙ c.in-Ok.is) in
    by_number written_out c.args.pic.now low own (rw c.from.ensures c.write_pbm.ensures)

pub returns-in-Err : goal.returns-in-Err
unfolding told refusal_number
returns-in-Err c =
    by_none written_out c.args.pic.now (by_no_name (sym c.try_from.ensures ∙ c.in-Err.is)) c.from-in-Err.ensures
