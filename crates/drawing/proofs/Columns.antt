-- The laws of a column of the glyph drawn at once: row of dots by row of dots it leaves the picture that its cycles leave.
-- Assumes nothing.
use mathlib.Core.Path.{◌≡◌, refl, sym, ap, ◌∙◌}
use mathlib.Core.Logic.{⊎_elim}
use mathlib.Core.Bool.{Bool, true, false, cond, ◌&&◌}
use mathlib.Core.List.{List, [], ◌∷◌}
use Prim.Native.Nat.{ℕ, ◌+◌, ◌-◌, ◌*◌, ◌/◌, ◌≤◌, ◌<◌}
use native.Mathlib.Nat.{add_assoc, zero-add}
use native.Mathlib.Omega.{arith}
use lib.Arith.{digits_div}
use Rattle.picture.specs.Dot.{paint, gathered}
use Rattle.picture.specs.Working.Runs.{up_from}
use Rattle.picture.specs.Screen.{dot_number}
use Rattle.basis.proofs.Cases.{split}
use Rattle.picture.proofs.Laws.{gathered_along, gathered_none, gathered_columns, paint_rows, place_own}
use Rattle.motion.specs.declared.position.Spot.{Spot}
use Rattle.motion.specs.declared.character.Body.{Body}
use Rattle.motion.specs.declared.character.Lie.{Lie}
use Rattle.motion.specs.declared.character.Cell.{Cell}
use Rattle.motion.specs.Position.{moved}
use Rattle.motion.specs.Character.{u_of, v_of, column_of, row_of, lying, along, laid}
use Rattle.motion.specs.Working.Cells.{Counts, OnPlace}
use Rattle.motion.specs.Glyph.{inked}
use Rattle.motion.proofs.Laws.{Splits, splits, whole, way_at, laid_on, split_i, split_u}
use Rattle.drawing.specs.declared.tip.Tip.{Tip}
use Rattle.drawing.specs.Figure.{Cells, way, writes}
use Rattle.drawing.specs.Run.{mark, place_of, dot_of, dots_from}
use Rattle.drawing.specs.Working.Column.{Fits, AtFoot}

-- row v of a column's dots, from the cell at its first cycle: P dots along; turned, P dots up
unfoldable pub row_by : Bool → Lie → Tip → Body → Cell → ℕ → List ℕ
row_by false lie t b c v = up_from (dot_number t.window.width (along lie c.at.x v) (c.at.y + v)) b.p
row_by true lie t b c v = gathered (λ y. dot_number t.window.width (c.at.x - v) y ∷ []) (along lie c.at.y v) b.p

unfoldable pub row_dots : Lie → Tip → Body → List ℕ → Cell → ℕ → List ℕ
row_dots lie t b glyph c v = cond (t.down && inked glyph c.column (v / b.q)) (row_by lie.turned lie t b c v) []

-- a row leans by no more than its number, and one below another by no more
pub lean_least : (tilted : Bool) (v : ℕ) → cond tilted v 0 ≤ v
lean_least true v = omega arith
lean_least false v = omega arith

pub lean_most : (tilted : Bool) {v k : ℕ} → v ≤ k → cond tilted v 0 ≤ cond tilted k 0
lean_most true h = h
lean_most false h = omega arith

-- the rows of dots of one row of the glyph are on alike
module _ (lie : Lie) (t : Tip) (b : Body) (glyph : List ℕ) (c : Cell) (row : ℕ) where
  pub rows_on : (t.down && inked glyph c.column row) ≡ true
      → gathered (row_dots lie t b glyph c) (row * b.q) b.q ≡ gathered (row_by lie.turned lie t b c) (row * b.q) b.q
  unfolding row_dots
  rows_on d =
      gathered_along (row_dots lie t b glyph c) (row_by lie.turned lie t b c) (row * b.q) (row * b.q) b.q (λ l k. rw (digits_div row k, d))

  pub rows_off : (t.down && inked glyph c.column row) ≡ false → gathered (row_dots lie t b glyph c) (row * b.q) b.q ≡ []
  unfolding row_dots
  rows_off d = gathered_none (row_dots lie t b glyph c) (row * b.q) b.q (λ l k. rw (digits_div row k, d))

-- where the cycles of each row write the dots of the row, all the rows leave the picture that the cycles leave
by_rows : (lit : Bool) (b : Body) (c : Cell) (dot row : ℕ → List ℕ) → c.i ≡ u_of b c.i * b.rows
    → ((v : ℕ) → v < b.rows → gathered (λ u. dot (u * b.rows + v)) (u_of b c.i) b.p ≡ row v)
    → (pic : List ℕ) → paint lit (gathered row 0 b.rows) pic ≡ paint lit (gathered dot c.i (b.p * b.rows)) pic
by_rows lit b c dot row start same pic =
    let u = u_of b c.i in
    sym
    (ap (λ (i : ℕ). paint lit (gathered dot i (b.p * b.rows)) pic) start
    ∙ ap (λ (ds : List ℕ). paint lit ds pic) (gathered_columns dot b.rows u b.p)
    ∙ paint_rows lit (λ w v. dot (w * b.rows + v)) u b.p 0 b.rows pic
    ∙ ap (λ (ds : List ℕ). paint lit ds pic)
    (gathered_along (λ v. gathered (λ w. dot (w * b.rows + v)) u b.p) row 0 0 b.rows (λ v h. rw zero-add (same v h))))

module _ (t : Tip) {lie : Lie} {b : Body} {c : Cell} (g : Counts b c) (w : AtFoot t lie b c) where
  -- the column starts at u, a multiple of P
  starts_u : u_of b c.i ≡ c.column * b.p
  starts_u = omega (arith, whole (split_u g), w.first)

  starts_i : c.i ≡ u_of b c.i * b.rows
  starts_i = omega (arith, whole (split_i g), w.foot)

  -- the glyph's column in the k-th column of dots
  column_here : {i k v : ℕ} → Splits i b.rows (u_of b c.i + k) v → k < b.p → column_of b i ≡ c.column
  unfolding column_of u_of
  column_here at h = rw (← at.quotient, starts_u) (digits_div c.column h)

  -- the place of row v in the k-th column of dots: from the cell on by the way to dot (k, v)
  place_here : (start : Spot) (k : ℕ) {i v : ℕ} → OnPlace lie b start c → Splits i b.rows (u_of b c.i + k) v → v ≤ 4096
      → place_of (Cells lie b) start i ≡ moved c.at (laid lie k v)
  unfolding place_of way
  place_here start k {i} {v} place at h =
      rw (way_at lie b at, place, way_at lie b (split_i g), w.foot)
      (sym (rw zero-add at (laid_on lie start (u_of b c.i) 0 k v (omega arith))))

-- and its row at row v
row_here : (b : Body) {i u v : ℕ} → Splits i b.rows u v → row_of b i ≡ v / b.q
unfolding row_of v_of
row_here b at = rw (← at.rest)

-- what a place in the window marks is its own dot
mark_own : (t : Tip) (on : Bool) {s : Spot} {x y : ℕ} → s.x ≡ x → s.y ≡ y → x < t.window.width → y < t.window.height
    → mark t on s.x s.y ≡ cond (t.down && on) (dot_number t.window.width x y ∷ []) []
unfolding mark
mark_own t on {x = x} {y = y} ex ey hx hy = rw (ex, ey) (ap (λ (ds : List ℕ). cond (t.down && on) ds []) (place_own t.window x y hx hy))

-- that place, where the column is inside: nothing steps around
module _ (t : Tip) (b : Body) (c : Cell) {k v : ℕ} (hk : k < b.p) (hv : v < b.rows) where
  spot_here : (turned tilted : Bool) → Fits (lying turned tilted) t b c → let lie = lying turned tilted in
      let s = moved c.at (laid lie k v) in
      let x = cond turned (c.at.x - v) (along lie c.at.x v + k) in
      let y = cond turned (along lie c.at.y v + k) (c.at.y + v) in
      (s.x ≡ x) × (s.y ≡ y) × (x < t.window.width) × (y < t.window.height)
  unfolding moved laid along
  spot_here false tilted fits =
      let lean = lean_most tilted {v = v} {k = b.rows - 1} (omega arith) in
      (omega (arith, lean, fits.right), omega (arith, fits.top), omega (arith, lean, fits.wide), omega (arith, fits.high))
  spot_here true tilted fits =
      let lean = lean_most tilted {v = v} {k = b.rows - 1} (omega arith) in
      let in' = fits.1 in
      (omega (arith, fits.0, in'.right), omega (arith, lean, in'.top), omega (arith, fits.0, in'.wide), omega (arith, lean, in'.high))

-- the dot of row v in the k-th column of dots
cell_dot : (lie : Lie) (t : Tip) {b : Body} (glyph : List ℕ) {c : Cell} (start : Spot) {i k v : ℕ} → Counts b c → AtFoot t lie b c
    → OnPlace lie b start c → Splits i b.rows (u_of b c.i + k) v → k < b.p → v < b.rows → v ≤ 4096
    → dot_of t (Cells lie b) glyph start i
    ≡ cond (t.down && inked glyph c.column (v / b.q))
    (dot_number t.window.width (cond lie.turned (c.at.x - v) (along lie c.at.x v + k)) (cond lie.turned (along lie c.at.y v + k) (c.at.y + v)) ∷ [])
    []
unfolding dot_of writes
cell_dot lie t {b} glyph {c} start {i} {k} {v} g w place at hk hv short =
    let h = spot_here t b c hk hv lie.turned lie.tilted w.inside in
    rw (column_here t g w at hk, row_here b at, place_here t g w start k place at short)
    (mark_own t (inked glyph c.column (v / b.q)) h.0 h.1 h.2 h.3)

-- so the cycles of row v write its dots
module _ (t : Tip) (b : Body) (c : Cell) (dot : ℕ → List ℕ) (u v : ℕ) where
  row_on : (turned : Bool) (lie : Lie)
      → ((k : ℕ) → k < b.p → dot (u + k)
      ≡ dot_number t.window.width (cond turned (c.at.x - v) (along lie c.at.x v + k)) (cond turned (along lie c.at.y v + k) (c.at.y + v)) ∷ [])
      → gathered dot u b.p ≡ row_by turned lie t b c v
  unfolding row_by
  row_on false lie h =
      gathered_along dot (λ e. e ∷ []) u (dot_number t.window.width (along lie c.at.x v) (c.at.y + v)) b.p (λ k hk. h k hk ∙ rw add_assoc)
  row_on true lie h = gathered_along dot (λ y. dot_number t.window.width (c.at.x - v) y ∷ []) u (along lie c.at.y v) b.p h

row_cycles : (lie : Lie) (t : Tip) {b : Body} (glyph : List ℕ) {c : Cell} (start : Spot) → Counts b c → AtFoot t lie b c
    → OnPlace lie b start c → b.rows ≤ 4096 → (v : ℕ) → v < b.rows
    → gathered (λ u. dot_of t (Cells lie b) glyph start (u * b.rows + v)) (u_of b c.i) b.p ≡ row_dots lie t b glyph c v
unfolding row_dots
row_cycles lie t {b} glyph {c} start g w place short v hv =
    let u = u_of b c.i in
    let dot : ℕ → List ℕ = λ n. dot_of t (Cells lie b) glyph start (n * b.rows + v) in
    ⊎_elim
    (λ d. rw d (row_on t b c dot u v lie.turned lie (λ k hk. cell_dot lie t glyph start g w place (splits (u + k) hv refl) hk hv (omega arith) ∙ rw d)))
    (λ d. rw d (gathered_none dot u b.p (λ k hk. cell_dot lie t glyph start g w place (splits (u + k) hv refl) hk hv (omega arith) ∙ rw d)))
    (split (t.down && inked glyph c.column (v / b.q)))

-- the rows of a column leave the picture that its cycles leave
pub column_rows : (lie : Lie) (t : Tip) {b : Body} (glyph : List ℕ) {c : Cell} (start : Spot) → Counts b c → AtFoot t lie b c
    → OnPlace lie b start c → b.rows ≤ 4096 → (pic : List ℕ)
    → paint t.lit (gathered (row_dots lie t b glyph c) 0 b.rows) pic
    ≡ paint t.lit (dots_from t (Cells lie b) glyph start c.i (b.p * b.rows)) pic
unfolding dots_from
column_rows lie t {b} glyph {c} start g w place short pic =
    by_rows t.lit b c (dot_of t (Cells lie b) glyph start) (row_dots lie t b glyph c) (starts_i t g w) (row_cycles lie t glyph start g w place short) pic
