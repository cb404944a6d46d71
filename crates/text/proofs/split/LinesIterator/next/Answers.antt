-- The iterator over lines meets its contract: the text is cut at its first line feed.
-- Assumes nothing.
use mathlib.Core.Path.{◌≡◌, ap}
use mathlib.Core.List.{◌∷◌}
use lib.ListN.{length}
use native.Mathlib.Omega.{arith}
use borrow.Author.Rules.{rules}
use Rattle.text.specs.Pieces.{lines_of}
use Rattle.text.proofs.Lines.{lines_none, lines_cut}
use Rattle.text.proofs.split.LinesIterator.next.Goals as goal

pub returns-then-is_empty-clause-steps : goal.returns-then-is_empty-clause-steps
returns-then-is_empty-clause-steps c =
    let none = lines_none c.args.self.now.0.now (search rules) in
    (none, none)

next_line : (c : goal.After-self-1) → lines_of c.args.self.now.0.now ≡ c.cut.result.0.now ∷ lines_of c.unwrap_or-self.result.now
next_line c = rw c.unwrap_or-self.ensures (lines_cut _ _ c.cut.ensures (search rules) (omega arith))

pub returns-clause-steps : goal.returns-clause-steps
returns-clause-steps c = next_line c

pub returns-clause-goes : goal.returns-clause-goes
returns-clause-goes c =
    let shorter = ap length (next_line c) in
    search rules
