-- `motion::character::Letter::cell_at` meets its contract: the counters are the divisions, and what is taken back is put back.
-- Assumes nothing.
use mathlib.Core.Path.{refl}
use Rattle.motion.specs.Character.{u_of, v_of, column_of, row_of}
use Rattle.motion.proofs.Positions.{back_and_on}
use borrow.Author.Rules.{rules}
use Rattle.motion.proofs.character.Letter.cell_at.Goals as goal

pub returns : goal.returns
unfolding u_of v_of column_of row_of
returns c = (
  refl,
  record { v = refl; row = refl; rowdot = refl; column = refl; columndot = refl },
  λ lie. back_and_on _ _ (search rules) (search rules),
)
