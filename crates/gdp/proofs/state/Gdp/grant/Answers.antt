-- `gdp::state::Gdp::grant` meets its contract: refused, or by what runs.
-- Assumes nothing.
use mathlib.Core.Path.{◌≡◌, refl, sym, ◌∙◌}
use mathlib.Core.Bool.{false}
use borrow.Author.Tests.{eqb-false}
use Rattle.std.proofs.Common.{rules}
use Rattle.parts.specs.declared.refusal.Refusal.TheVariants.{BadState}
use Rattle.parts.specs.Refusal.{lowest, refusal_number}
use Rattle.gdp.specs.Flat.{work_in}
use Rattle.gdp.specs.Working.Check.{stray}
use Rattle.gdp.proofs.Flaws.{plain_named, stray_flawed, others_sound}
use Rattle.gdp.proofs.Told.{grant_refused, grant_memories}
use Rattle.gdp.proofs.Steps.{others_granted}
use Rattle.gdp.proofs.state.Gdp.grant.Goals as goal
use Rattle.gdp.proofs.state.Gdp.grant.Goals.{Else-is_stray, Else-is_stepping}

pub returns-then-is_stray : goal.returns-then-is_stray
unfolding lowest refusal_number
returns-then-is_stray c =
    let flaw = stray_flawed c.args.self (sym c.is_stray.ensures ∙ c.if-is_stray.true) in
    grant_refused c.args.self _ _ _ BadState refl (rw flaw refl)

-- past the first refusal the bytes are not stray
plain : (c : Else-is_stray) → stray c.args.self ≡ false
plain c = sym c.is_stray.ensures ∙ c.if-is_stray.false

-- past the test of what runs it is no command that steps
other : (c : Else-is_stepping) → work_in c.args.self.modes ≡ 1 → ⊥
other c = eqb-false _ _ (sym c.is_stepping.ensures ∙ c.if-is_stepping.false)

pub returns-in_err-check_memory : goal.returns-in_err-check_memory
returns-in_err-check_memory c =
    let a = c.args in
    let h = goal.at.returns-in_err-check_memory c in
    let sound = others_sound a.self (plain h.Else-is_stray) (other h.Else-is_stepping) in
    grant_refused a.self _ _ _ c.in_err-check_memory.field-0.0 (search rules)
    (c.in_err-check_memory.ensures ∙ sym (grant_memories a.self a.n a.pic.now a.table.now sound))

pub returns : goal.returns
returns c =
    let a = c.args in
    let h = goal.at.returns c in
    rw (c.accepted.ensures, c.tidy.ensures (plain_named a.self (plain h.Else-is_stray)))
    (others_granted a.self _ _ _ (plain h.Else-is_stray) (other h.Else-is_stepping) (sym c.in_ok-check_memory.ensures))
