-- `panel::parse::parse_one` meets its contract: what each letter makes of its field.
-- Assumes nothing.
use mathlib.Core.Path.{◌≡◌, refl, sym, ◌∙◌}
use mathlib.Core.Bool.{Bool, true, false, cond}
use borrow.Author.Rules.{rules}
use Rattle.std.specs.Bool.{then_some}
use Rattle.panel.specs.declared.parse.Record.TheVariants.{Blanking as blanking}
use Rattle.panel.specs.Record.{Blanking, Malformed}
use Rattle.panel.specs.Working.Parsed.{meant}
use Rattle.panel.proofs.Letters.{number_to_none, number_to_ok, says_read, says_cycles, says_blanking, other_one}
use Rattle.panel.proofs.parse.parse_one.Goals as goal

meant_if : (b level : Bool) → meant (then_some b (blanking level)) ≡ cond b (Blanking level) Malformed
meant_if true level = refl
meant_if false level = refl

pub returns-in_err-address-in-82 : goal.returns-in_err-address-in-82
returns-in_err-address-in-82 c =
    rw (c.from_residual.ensures, c.in-82.is, says_read, ← c.in_err-address-in-82.ensures) refl

pub returns-in_ok-address-in-82 : goal.returns-in_ok-address-in-82
returns-in_ok-address-in-82 c = rw (c.in-82.is, says_read, ← c.in_ok-address-in-82.ensures) refl

pub returns-in_err-number_of-in-84 : goal.returns-in_err-number_of-in-84
returns-in_err-number_of-in-84 c =
    rw (c.from_residual-in_err-number_of-in-84.ensures, c.in-84.is, says_cycles, ← number_to_none 65535 10 5 _ c.in_err-number_of-in-84.ensures) refl

pub returns-in_err-n-in-84 : goal.returns-in_err-n-in-84
returns-in_err-n-in-84 c =
    let is = c.in_err-n-in-84.ensures.value ∙ number_to_ok 65535 10 5 _ _ c.in_ok-number_of-in-84.ensures c.try_from.ensures in
    rw (c.from_residual-in_err-n-in-84.ensures, c.in-84.is, says_cycles, ← is) refl

pub returns-in_ok-n-in-84 : goal.returns-in_ok-n-in-84
returns-in_ok-n-in-84 c =
    let is = c.in_ok-n-in-84.ensures.value ∙ number_to_ok 65535 10 5 _ _ c.in_ok-number_of-in-84.ensures c.try_from.ensures in
    rw (c.in-84.is, says_cycles, ← is) refl

pub returns-in_err-b-in-86 : goal.returns-in_err-b-in-86
returns-in_err-b-in-86 c =
    rw (c.in-86.is, c.from_residual-in_err-b-in-86.ensures, says_blanking, ← c.in_err-b-in-86.ensures) refl

pub returns-in_ok-b-in-86 : goal.returns-in_ok-b-in-86
returns-in_ok-b-in-86 c =
    rw (c.in-86.is, says_blanking, ← c.in_ok-b-in-86.ensures, c.then_some.ensures) (meant_if _ _)

pub returns-in_default : goal.returns-in_default
returns-in_default c = sym (other_one _ _ (search rules) (search rules) (search rules))
