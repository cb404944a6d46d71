-- What is noted of events played on a card: the ground of the tables of readings.
-- Assumes nothing.
use Rattle.std.specs.Prelude.{ℕ, zero, suc, ◌+◌, ◌*◌, true, cond, List, [], ◌∷◌, ◌++◌, eqb, replicate}
use Rattle.picture.specs.Dot.{paint}
use Rattle.parts.specs.declared.format.Format.{Format}
use Rattle.parts.specs.Format.{width, bytes}
use Rattle.rules.specs.State.{fresh}
use Rattle.rules.specs.Figure.{tables}
use Rattle.rules.specs.Calls.{Answer, Located, memory, located}
use Rattle.rules.specs.Card.{Card, Event, W, R, T, VB, LP, outcome_of, next, played}

-- a refusal is noted as 1,000 more than its number; else a read and a grant by their value
unfoldable pub note_of : Answer → List ℕ → List ℕ
note_of a note = cond (eqb a.number 0) note ((1000 + a.number) ∷ [])

unfoldable pub noted : Event → Answer → List ℕ
noted (W a v) r = note_of r []
noted (R a) r = note_of r (r.value ∷ [])
noted (T n) r = note_of r (r.value ∷ [])
noted (VB level) r = note_of r []
noted (LP h v) r = note_of r []

-- all that is noted on the way
unfoldable pub said : Card → List Event → List ℕ
said c [] = []
said c (e ∷ es) = noted e (outcome_of c e).answer ++ said (next c e) es

-- at the end: the picture, X and Y, the address outputs
unfoldable pub drawn : Card → List Event → List ℕ
drawn c es = (played c es).memory.picture

unfoldable pub ends : Card → List Event → List ℕ
ends c es = (played c es).state.regs.x ∷ (played c es).state.regs.y ∷ []

unfoldable pub lines : Located → List ℕ
lines l = cond (eqb l.number 0) (l.address.low ∷ l.address.high ∷ l.address.msl ∷ []) ((1000 + l.number) ∷ [])

unfoldable pub addressed : Card → List Event → List ℕ
addressed c es = lines (located (played c es).state)

-- a dark picture, a table of blank glyphs, a fresh card
unfoldable pub dark : Format → List ℕ
dark f = replicate (bytes f) 0

unfoldable pub blank : List ℕ
blank = replicate 480 0

unfoldable pub new : Format → Card
new f = record { state = fresh f; memory = memory (dark f); tables = tables blank }

-- n dots to the right from (x, y), as pairs x, y; a rectangle of m such rows upwards
unfoldable pub row : ℕ → ℕ → ℕ → List (ℕ × ℕ)
row x y zero = []
row x y (suc n) = (x, y) ∷ row (suc x) y n

unfoldable pub box : ℕ → ℕ → ℕ → ℕ → List (ℕ × ℕ)
box x y n zero = []
box x y n (suc m) = row x y n ++ box x (suc y) n m

-- a dark picture with just these dots lit
unfoldable pub numbers : Format → List (ℕ × ℕ) → List ℕ
numbers f [] = []
numbers f (d ∷ ds) = (d.1 * width f + d.0) ∷ numbers f ds

unfoldable pub just : Format → List (ℕ × ℕ) → List ℕ
just f ds = paint true (numbers f ds) (dark f)
