-- `motion::vector::line_of` meets its contract: the definition's own record, part by part.
-- Assumes nothing.
use native.Mathlib.Omega.{arith}
use Rattle.motion.specs.Vector.{given_x, given_y, length_x, length_y, minus_x, minus_y, line_of}
use Rattle.motion.proofs.vector.line_of.Goals as goal

pub returns : goal.returns
unfolding line_of length_x length_y given_x given_y minus_x minus_y
returns c = (cc, record { order = omega arith; small = omega arith })
