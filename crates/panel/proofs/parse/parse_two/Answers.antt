-- `panel::parse::parse_two` meets its contract: what each letter makes of its two fields.
-- Assumes nothing.
use mathlib.Core.Path.{refl, sym}
use borrow.Author.Rules.{rules}
use Rattle.panel.proofs.Letters.{says_write, says_edge, other_two}
use Rattle.panel.proofs.parse.parse_two.Goals as goal

pub returns-in_err-address-in-87 : goal.returns-in_err-address-in-87
returns-in_err-address-in-87 c =
    rw (c.from_residual.ensures, c.in-87.is, says_write, ← c.in_err-address-in-87.ensures) refl

pub returns-in_err-value-in-87 : goal.returns-in_err-value-in-87
returns-in_err-value-in-87 c =
    rw (c.from_residual-in_err-value-in-87.ensures, c.in-87.is, says_write, ← c.in_ok-address-in-87.ensures, ← c.in_err-value-in-87.ensures) refl

pub returns-in_ok-value-in-87 : goal.returns-in_ok-value-in-87
returns-in_ok-value-in-87 c =
    rw (c.in-87.is, says_write, ← c.in_ok-address-in-87.ensures, ← c.in_ok-value-in-87.ensures) refl

pub returns-in_err-h-in-76 : goal.returns-in_err-h-in-76
returns-in_err-h-in-76 c =
    rw (c.from_residual-in_err-h-in-76.ensures, c.in-76.is, says_edge, ← c.in_err-h-in-76.ensures) refl

pub returns-in_err-v-in-76 : goal.returns-in_err-v-in-76
returns-in_err-v-in-76 c =
    rw (c.from_residual-in_err-v-in-76.ensures, c.in-76.is, says_edge, ← c.in_ok-h-in-76.ensures, ← c.in_err-v-in-76.ensures) refl

pub returns-in_ok-v-in-76 : goal.returns-in_ok-v-in-76
returns-in_ok-v-in-76 c =
    rw (c.in-76.is, says_edge, ← c.in_ok-h-in-76.ensures, ← c.in_ok-v-in-76.ensures) refl

pub returns-in_default : goal.returns-in_default
returns-in_default c = sym (other_two _ _ _ (search rules) (search rules))
