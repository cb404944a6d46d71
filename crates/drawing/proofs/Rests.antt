-- The place after a run: what the loops reach is where the figure's closed form has X and Y stand.
-- Assumes nothing.
use mathlib.Core.Path.{◌≡◌, refl, ap, ◌∙◌}
use mathlib.Core.Bool.{Bool, true, false, cond}
use Prim.Native.Nat.{ℕ, ◌+◌, ◌≤◌, ◌<◌, min}
use native.Mathlib.Omega.{arith}
use lib.Dec.{ltb}
use borrow.Author.Tests.{ltb-true, ltb-false}
use Rattle.motion.specs.declared.position.Spot.{Spot}
use Rattle.motion.specs.declared.vector.Line.{Line}
use Rattle.motion.specs.declared.character.Body.{Body}
use Rattle.motion.specs.declared.character.Lie.{Lie}
use Rattle.motion.specs.Position.{ahead, moved}
use Rattle.motion.specs.Vector.{vector_cycles, vector_x, vector_y}
use Rattle.motion.specs.Character.{body_cycles, body_way}
use Rattle.motion.specs.Working.Cells.{Sized}
use Rattle.motion.proofs.Laws.{same_spot, end_way_lem}
use Rattle.drawing.specs.Figure.{Figure, Stroke, Cells, cycles_of, way, end_way}
use Rattle.drawing.specs.Run.{place_of, rest_of}

-- short of the count a figure stands on the place of the next cycle, at the count where it leaves X and Y
rests : (f : Figure) (start : Spot) (i : ℕ) {s : Spot} → i ≤ cycles_of f
    → (i < cycles_of f → s ≡ place_of f start i) → (i ≡ cycles_of f → s ≡ moved start (end_way f)) → s ≡ rest_of f start i
unfolding rest_of
rests f start i {s} h short full = go (ltb i (cycles_of f)) (λ e. ltb-true i (cycles_of f) e) (λ e. ltb-false i (cycles_of f) e)
  where
    go : (b : Bool) → (b ≡ true → i < cycles_of f) → (b ≡ false → cycles_of f ≤ i)
        → s ≡ cond b (place_of f start i) (moved start (end_way f))
    go true h₁ h₂ = short (h₁ refl)
    go false h₁ h₂ = full (omega (arith, h₂ refl))

-- a vector: past its last dot the place stays on it
pub stroke_rests : (ctrl2 : ℕ) (l : Line) (start : Spot) (i : ℕ) {s : Spot} → i ≤ l.long + 1
    → s.x ≡ ahead start.x (vector_x l (min i l.long)) → s.y ≡ ahead start.y (vector_y l (min i l.long))
    → s ≡ rest_of (Stroke ctrl2 l) start i
unfolding cycles_of vector_cycles place_of way end_way moved
stroke_rests ctrl2 l start i h ex ey =
    let next : i < l.long + 1 → min i l.long ≡ i = λ k. omega arith in
    let last : i ≡ l.long + 1 → min i l.long ≡ l.long = λ k. omega arith in
    rests (Stroke ctrl2 l) start i h
    (λ k. same_spot (rw (next k) at ex) (rw (next k) at ey))
    (λ k. same_spot (rw (last k) at ex) (rw (last k) at ey))

-- a character or block: one past its last cycle is where it leaves X and Y
pub cells_rest : (lie : Lie) (b : Body) (start : Spot) (i : ℕ) {s : Spot} → Sized b → i ≤ body_cycles b
    → s ≡ moved start (body_way lie b i) → s ≡ rest_of (Cells lie b) start i
unfolding cycles_of place_of way end_way
cells_rest lie b start i size h e =
    rests (Cells lie b) start i h
    (λ _. e)
    (λ k. e ∙ ap (λ (n : ℕ). moved start (body_way lie b n)) k ∙ end_way_lem b size lie start)
