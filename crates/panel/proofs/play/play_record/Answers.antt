-- `panel::play::play_record` meets its contract: an accepted call tells its value, a refused one E.
-- Assumes nothing.
use mathlib.Core.Path.{refl}
use Rattle.parts.specs.Refusal.{refusal_number}
use Rattle.parts.proofs.Laws.{number_some}
use Rattle.panel.proofs.Answers.{answer_given, answer_refused}
use Rattle.panel.proofs.Steps.{called_address, called_stepped, malformed_stepped}
use Rattle.panel.proofs.play.play_record.Goals as goal

pub returns-in_default : goal.returns-in_default
unfolding refusal_number
returns-in_default c = rw c.in_default.is (malformed_stepped c.requires.1 c.put_e.ensures.0 c.put_e.ensures.1)

pub put_value-requires : goal.put_value-requires
put_value-requires c = (called_address _ (rw c.in-Ok.is at c.call.ensures) refl, c.requires.2)

pub returns-in-Ok : goal.returns-in-Ok
returns-in-Ok c =
    let called = rw c.in-Ok.is at c.call.ensures in
    let e = c.put_value.ensures in
    rw c.in-Some.is (called_stepped called (rw (answer_given _ 0 _ refl) e.0) e.1)

pub returns-in-Err : goal.returns-in-Err
returns-in-Err c =
    let called = rw c.in-Err.is at c.call.ensures in
    let e = c.put_e-in-Err.ensures in
    rw c.in-Some.is (called_stepped called (rw (answer_refused _ _ _ (number_some c.in-Err.why)) e.0) e.1)
