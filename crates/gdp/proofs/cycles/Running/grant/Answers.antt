use mathlib.Core.Path.{sym, ◌∙◌}
use Rattle.gdp.proofs.Steps.{nothing_refused}
use Rattle.gdp.proofs.cycles.Running.grant.Goals as goal

pub returns-in-NoCycle : goal.returns-in-NoCycle
returns-in-NoCycle c =
    nothing_refused c.args.self.card c.args.self.plain c.args.self.steps _ _ _ (sym c.from.ensures ∙ c.in-NoCycle.is)
