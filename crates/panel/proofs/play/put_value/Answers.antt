-- `panel::play::put_value` meets its contract: a read and a grant tell their value, no other call has one.
-- Assumes nothing.
use mathlib.Core.Path.{◌≡◌, refl}
use mathlib.Core.List.{[]}
use Prim.Native.Nat.{ℕ}
use native.Mathlib.Omega.{arith}
use Rattle.text.proofs.Laws.{writes_none, writes_within}
use Rattle.panel.specs.declared.parse.Record.{Record}
use Rattle.panel.specs.declared.parse.Record.TheVariants.{Write as write, Read as read, Cycles as cycles, Blanking as blanking, Edge as edge}
use Rattle.panel.specs.Working.Parsed.{text_of}
use Rattle.panel.proofs.LineLengths.{line_r_length}
use Rattle.panel.proofs.play.put_value.Goals as goal

silent : (r : Record) (v : ℕ) → ((a : ℕ) → r ≡ read a → ⊥) → ((n : ℕ) → r ≡ cycles n → ⊥) → text_of r v ≡ []
unfolding text_of
silent (write a b) v h k = refl
silent (read a) v h k = absurd (h a refl)
silent (cycles n) v h k = absurd (k n refl)
silent (blanking level) v h k = refl
silent (edge a b) v h k = refl

pub returns-in-Read : goal.returns-in-Read
unfolding text_of
returns-in-Read c =
    rw c.in-Read.is (writes_within (omega (arith, line_r_length c.in-Read.address c.args.value)) c.put_r.ensures)

pub returns-in-Cycles : goal.returns-in-Cycles
unfolding text_of
returns-in-Cycles c = rw c.in-Cycles.is (c.put_t.ensures.0, omega (arith, c.put_t.ensures.1))

pub returns-in_default : goal.returns-in_default
returns-in_default c =
    let none = silent c.args.what c.args.value c.in_default.not-Read c.in_default.not-Cycles in
    rw none (writes_none, omega arith)
