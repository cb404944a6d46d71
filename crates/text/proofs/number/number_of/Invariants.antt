-- `text::number::number_of`: the bytes passed are digits, n is their number, and the rest decides (`Passed`).
-- Assumes nothing.
use Rattle.text.proofs.Numbers.{Passed}
use Rattle.text.proofs.number.number_of.Given as goal

abbrev pub invariant-loop-b : goal.invariant-loop-b
invariant-loop-b l = Passed l.base l.f l.n l.b-index
