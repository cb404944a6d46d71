-- `panel::parse::byte` meets its contract: of the numbers those up to 255 are bytes.
-- Assumes nothing.
use mathlib.Core.Path.{◌∙◌}
use Rattle.panel.proofs.Letters.{number_to_none, number_to_ok}
use Rattle.panel.proofs.parse.byte.Goals as goal

pub returns-in_err-number_of : goal.returns-in_err-number_of
returns-in_err-number_of c = rw c.from_residual.ensures (number_to_none _ _ _ _ c.in_err-number_of.ensures)

pub returns : goal.returns
returns c = c.ok.ensures.value ∙ number_to_ok _ _ _ _ _ c.in_ok-number_of.ensures c.try_from.ensures
