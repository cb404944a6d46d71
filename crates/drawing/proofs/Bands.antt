-- The laws of the bands that a column of the glyph is painted by: they are in the picture, and leave the picture that the column's
-- cycles leave.
-- Assumes nothing.
use mathlib.Core.Path.{◌≡◌, refl, sym, ap, ◌∙◌}
use mathlib.Core.Logic.{⊎_elim}
use mathlib.Core.Bool.{Bool, true, false, ◌&&◌}
use mathlib.Core.List.{List, [], ◌∷◌, append-nil}
use Prim.Native.Nat.{ℕ, ◌+◌, ◌-◌, ◌*◌, ◌/◌, ◌≤◌, ◌<◌}
use native.Mathlib.Nat.{zero-add, add-zero, zero-mul, add-mul, mul-add, one-mul, mul-one, mul_assoc, mul-le-mul, mul-le-mul_right}
use native.Mathlib.Omega.{arith}
use Rattle.picture.specs.Dot.{paint, gathered}
use Rattle.picture.specs.Working.Runs.{up_from, rows_from}
use Rattle.picture.specs.Screen.{Screen, dot_number}
use Rattle.basis.proofs.Cases.{split}
use Rattle.picture.proofs.Laws.{gathered_along, gathered_none, gathered_columns, paint_alike, paint_back, paint_rows, power_some, row_in, row_small}
use Rattle.motion.specs.declared.position.Spot.{Spot}
use Rattle.motion.specs.declared.character.Body.{Body}
use Rattle.motion.specs.declared.character.Lie.{Lie}
use Rattle.motion.specs.declared.character.Cell.{Cell}
use Rattle.motion.specs.Character.{lying, along}
use Rattle.motion.specs.Working.Cells.{Sized, Counts, OnPlace}
use Rattle.motion.specs.Glyph.{inked}
use Rattle.drawing.specs.declared.tip.Tip.{Tip}
use Rattle.drawing.specs.declared.column.Bands.{Bands}
use Rattle.drawing.specs.Figure.{Cells}
use Rattle.drawing.specs.Run.{dots_from}
use Rattle.drawing.specs.Working.Cycle.{mark_rows}
use Rattle.drawing.specs.Working.Column.{FitsBy, Fits, bands_by, bands_of, band_at, band_dots, bands_dots, Paintable, AtFoot}
use Rattle.drawing.proofs.Columns.{row_by, row_dots, lean_least, lean_most, rows_on, rows_off, column_rows}

-- n strides of one dot less than a line are n dots less than n lines
strides_less : (n w : ℕ) → 0 < w → n * w ≡ n * (w - 1) + n
strides_less n w h =
    let one_more : w ≡ (w - 1) + 1 = omega arith in
    ap (λ (k : ℕ). n * k) one_more ∙ simp (mul-add, mul-one)

-- a stride is at most one more than the width
pub stride_most : (tilted : Bool) (w : ℕ) → w ≤ 524288 → along (lying false tilted) w 1 ≤ 524289
unfolding along
stride_most tilted w h = omega (arith, lean_least tilted 1)

-- upright, the first dot of row v is v strides after that of the first row
row_dot : (tilted : Bool) (w x y v : ℕ) → let lie = lying false tilted in
    dot_number w (along lie x v) (y + v) ≡ dot_number w x y + v * along lie w 1
unfolding along
row_dot true w x y v = simp (add-mul, mul-add, mul-one) (omega arith)
row_dot false w x y v = simp (add-mul, add-zero) (omega arith)

-- turned and tilted, the k-th dot of row v is v strides after that of the first row, k lines above the foot
slanted_dot : (w x y v k : ℕ) → 0 < w → v ≤ x → dot_number w (x - v) ((y + v) + k) ≡ (dot_number w x y + k * w) + v * (w - 1)
slanted_dot w x y v k h near = simp add-mul (omega (arith, strides_less v w h))

-- rows of dots that are on, from row v on
module _ (t : Tip) (b : Body) (c : Cell) (v m : ℕ) where
  -- upright, they are a stride apart
  upright_rows : (tilted : Bool) → let lie = lying false tilted in let up = along lie t.window.width 1 in
      gathered (row_by false lie t b c) v m ≡ rows_from (dot_number t.window.width c.at.x c.at.y + v * up) up b.p m
  unfolding row_by
  upright_rows tilted =
      let lie = lying false tilted in
      let w = t.window.width in
      let up = along lie w 1 in
      gathered_along (row_by false lie t b c) (λ r. up_from ((dot_number w c.at.x c.at.y + v * up) + r * up) b.p) v 0 m
      (λ r h. ap (λ (d : ℕ). up_from d b.p) (row_dot tilted w c.at.x c.at.y (v + r) ∙ rw zero-add (omega (arith, add-mul v r up))))

  -- turned, beside each other, they are P lines as long as they are many, from the last row on
  standing_rows : v + m ≤ c.at.x + 1 → (pic : List ℕ)
      → paint t.lit (rows_from ((dot_number t.window.width c.at.x c.at.y + 1) - (v + m)) t.window.width m b.p) pic
      ≡ paint t.lit (gathered (row_by true (lying true false) t b c) v m) pic
  unfolding row_by along
  standing_rows reach pic =
      let w = t.window.width in
      let foot = dot_number w c.at.x c.at.y in
      let dot : ℕ → ℕ → List ℕ = λ y j. dot_number w (c.at.x - j) y ∷ [] in
      let line : ℕ → List ℕ = λ r. up_from ((foot + 1) - (v + m) + r * w) m in
      sym
      (ap (λ (ds : List ℕ). paint t.lit ds pic)
      (gathered_along (row_by true (lying true false) t b c) (λ j. gathered (λ y. dot y j) c.at.y b.p) v v m
      (λ l k. ap (λ (y : ℕ). gathered (λ h. dot h (v + l)) y b.p) (omega arith)))
      ∙ sym (paint_rows t.lit dot c.at.y b.p v m pic)
      ∙ paint_alike t.lit (λ y. gathered (dot y) v m) line c.at.y 0 b.p
      (λ r h q. paint_back t.lit (λ j. dot_number w (c.at.x - j) (c.at.y + r)) ((foot + 1) - (v + m) + (0 + r) * w) v m
      (λ l k. rw zero-add (omega (arith, add-mul c.at.y r w))) q)
      pic)

  -- turned and tilted, they are P times single dots a stride apart, each time from a line above
  slanted_rows_lem : 0 < t.window.width → v + m ≤ c.at.x + 1 → (pic : List ℕ) → let w = t.window.width in
      paint t.lit (gathered (λ k. rows_from (dot_number w c.at.x c.at.y + k * w + v * (w - 1)) (w - 1) 1 m) 0 b.p) pic
      ≡ paint t.lit (gathered (row_by true (lying true true) t b c) v m) pic
  unfolding row_by along
  slanted_rows_lem some reach pic =
      let w = t.window.width in
      let dot : ℕ → ℕ → List ℕ = λ k r. (((dot_number w c.at.x c.at.y + k * w) + v * (w - 1)) + r * (w - 1)) ∷ [] in
      paint_rows t.lit dot 0 b.p 0 m pic
      ∙ ap (λ (ds : List ℕ). paint t.lit ds pic)
      (gathered_along (λ r. gathered (λ k. dot k r) 0 b.p) (row_by true (lying true true) t b c) 0 v m
      (λ r h. gathered_along (λ k. dot k (0 + r)) (λ y. dot_number w (c.at.x - (v + r)) y ∷ []) 0 (c.at.y + (v + r)) b.p
      (λ k l. ap (λ (d : ℕ). d ∷ [])
      (rw (zero-add k, zero-add r) (sym (slanted_dot w c.at.x c.at.y (v + r) k some (omega arith) ∙ omega (arith, add-mul v r (w - 1))))))))

-- where d has come as far ahead and back as so many rows, the row's dots begin there, less the way back of one row
module _ (s : Bands) (d from row : ℕ) (e : d + row * s.back ≡ from + row * s.ahead) where
  pub back_at : (row + 1) * s.back ≤ from + row * s.ahead → s.back ≤ d
  back_at h = let one : (row + 1) * s.back ≡ row * s.back + s.back = simp (add-mul, one-mul) in omega arith

  pub row_at : band_at s from row ≡ d - s.back
  unfolding band_at
  row_at = let one : (row + 1) * s.back ≡ row * s.back + s.back = simp (add-mul, one-mul) in rw (← e) (omega arith)

  pub row_here : (t : Tip) (glyph : List ℕ) (column : ℕ) {on : Bool} → on ≡ inked glyph column row
      → mark_rows t on (d - s.back) s.stride s.dots s.lines ≡ band_dots t s glyph column from row
  unfolding band_dots
  row_here t glyph column ink = rw (ink, row_at) refl

-- where the dots of a row of the glyph begin: so many strides ahead, or so many dots back
ahead_at : (s : Bands) (d q row : ℕ) → s.back ≡ 0 → s.ahead ≡ q * s.stride → band_at s d row ≡ d + (row * q) * s.stride
unfolding band_at
ahead_at s d q row none by = rw (none, by) (omega (arith, mul_assoc row q s.stride))

back_from : (b : Body) (w d row : ℕ) → band_at (bands_by true false b w) d row ≡ d - (row * b.q + b.q)
unfolding band_at
back_from b w d row = simp (add-mul, one-mul) (omega arith)

-- a row of the glyph is Q rows of dots
rows_in : {b : Body} → Sized b → {row : ℕ} → row < b.rows / b.q → row * b.q + b.q ≤ b.rows
rows_in {b} z {row} h =
    let rows : (row + 1) * b.q ≤ b.rows / b.q * b.q = mul-le-mul_right b.q (omega arith) in
    rw (add-mul, one-mul, ← z.glyph_rows) at rows

-- they begin at the foot or one dot on, and are painted few times
pub few_times : (turned tilted : Bool) (b : Body) (w : ℕ) → Sized b → let s = bands_by turned tilted b w in (s.first ≤ 1) × (s.times ≤ 16)
few_times false tilted b w z = (omega arith, omega arith)
few_times true false b w z = (omega arith, omega arith)
few_times true true b w z = (omega arith, z.p16)

-- the foot of a column that is inside is in the window
pub foot_low : (turned : Bool) (t : Tip) (far : ℕ) (b : Body) (c : Cell) → FitsBy turned t far b c → c.at.y ≤ t.window.height
foot_low false t far b c fits = omega (arith, fits.high)
foot_low true t far b c fits = omega (arith, fits.1.high)

-- the bands of a column that is inside
module _ (t : Tip) (b : Body) (c : Cell) {n : ℕ} (z : Sized b) (screen : Screen t.window n) where
  pub paintable : (turned tilted : Bool) → Fits (lying turned tilted) t b c → let w = t.window.width in let s = bands_by turned tilted b w in
      (k : ℕ) → k < s.times → Paintable s ((dot_number w c.at.x c.at.y + s.first) + k * w) (b.rows / b.q) n
  unfolding along
  paintable false tilted fits k h =
      let w = t.window.width in
      let up = along (lying false tilted) w 1 in
      let wide = (row_small t.window n 0 screen (omega arith)).1 in
      let near = stride_most tilted w wide in
      let foot : k ≡ 0 = omega arith in
      record {
        some = z.q0;
        near = near;
        soon = mul-le-mul z.q16 near;
        back = λ row r. omega arith;
        inside = λ row r l m.
            let v = row * b.q + l in
            let lean = lean_most tilted {v = v} {k = b.rows - 1} (omega (arith, rows_in z r)) in
            let in' = row_in t.window n (along (lying false tilted) c.at.x v) (c.at.y + v) b.p screen (omega (arith, lean, fits.wide)) (omega (arith, fits.high, rows_in z r)) in
            rw (foot, ahead_at (bands_by false tilted b w) _ b.q row refl refl)
            (omega (arith, in', row_dot tilted w c.at.x c.at.y v, add-mul (row * b.q) l up));
      }
  paintable true false fits k h =
      let w = t.window.width in
      let wide = (row_small t.window n 0 screen (omega arith)).1 in
      let foot : k ≡ 0 = omega arith in
      record {
        some = z.p0;
        near = omega arith;
        soon = omega arith;
        back = λ row r. simp (add-mul, one-mul) (omega (arith, rows_in z r, fits.0));
        inside = λ row r l m.
            let in' = row_in t.window n ((c.at.x + 1) - (row * b.q + b.q)) (c.at.y + l) b.q screen (omega (arith, rows_in z r, fits.0, fits.1.wide)) (omega (arith, fits.1.high)) in
            rw (foot, back_from b w)
            (omega (arith, in', rows_in z r, fits.0, add-mul c.at.y l w));
      }
  paintable true true fits k h =
      let w = t.window.width in
      let wide = (row_small t.window n 0 screen (omega arith)).1 in
      let less : w - 1 ≤ 524289 = omega arith in
      record {
        some = z.q0;
        near = less;
        soon = mul-le-mul z.q16 less;
        back = λ row r. omega arith;
        inside = λ row r l m.
            let v = row * b.q + l in
            let in' = row_in t.window n (c.at.x - v) ((c.at.y + v) + k) 1 screen (omega (arith, rows_in z r, fits.0, fits.1.wide)) (omega (arith, fits.1.high, rows_in z r)) in
            rw (ahead_at (bands_by true true b w) _ b.q row refl refl)
            (omega (arith, in', slanted_dot w c.at.x c.at.y v k (power_some screen.wide) (omega (arith, rows_in z r, fits.0)), add-mul (row * b.q) l (w - 1)));
      }

-- the bands of a row of the glyph that is on, each time, leave the picture of its rows of dots
on_alike : (t : Tip) (b : Body) (c : Cell) (row : ℕ) → 0 < t.window.width → row * b.q + b.q ≤ b.rows → (turned tilted : Bool)
    → Fits (lying turned tilted) t b c → (pic : List ℕ) → let w = t.window.width in let s = bands_by turned tilted b w in
    paint t.lit (gathered (λ k. rows_from (band_at s ((dot_number w c.at.x c.at.y + s.first) + k * w) row) s.stride s.dots s.lines) 0 s.times) pic
    ≡ paint t.lit (gathered (row_by turned (lying turned tilted) t b c) (row * b.q) b.q) pic
on_alike t b c row some top false tilted fits pic =
    let w = t.window.width in
    let s = bands_by false tilted b w in
    ap (λ (ds : List ℕ). paint t.lit ds pic)
    (append-nil _
    ∙ ap (λ (d : ℕ). rows_from d s.stride b.p b.q) (ahead_at s _ b.q row refl refl ∙ omega arith)
    ∙ sym (upright_rows t b c (row * b.q) b.q tilted))
on_alike t b c row some top true false fits pic =
    let w = t.window.width in
    ap (λ (ds : List ℕ). paint t.lit ds pic)
    (append-nil _ ∙ ap (λ (d : ℕ). rows_from d w b.q b.p) (back_from b w _ row ∙ omega arith))
    ∙ standing_rows t b c (row * b.q) b.q (omega (arith, fits.0)) pic
on_alike t b c row some top true true fits pic =
    let w = t.window.width in
    let s = bands_by true true b w in
    let foot = dot_number w c.at.x c.at.y in
    ap (λ (ds : List ℕ). paint t.lit ds pic)
    (gathered_along (λ k. rows_from (band_at s ((foot + 0) + k * w) row) (w - 1) 1 b.q)
    (λ k. rows_from ((foot + k * w) + (row * b.q) * (w - 1)) (w - 1) 1 b.q) 0 0 b.p
    (λ k h. ap (λ (d : ℕ). rows_from d (w - 1) 1 b.q) (ahead_at s _ b.q row refl refl ∙ rw add-zero refl)))
    ∙ slanted_rows_lem t b c (row * b.q) b.q some (omega (arith, fits.0)) pic

-- so the bands of a row of the glyph, on or not, do
band_alike : (t : Tip) (b : Body) (glyph : List ℕ) (c : Cell) (row : ℕ) → 0 < t.window.width → row * b.q + b.q ≤ b.rows → (lie : Lie)
    → Fits lie t b c → (pic : List ℕ) → let w = t.window.width in let s = bands_of lie b w in
    paint t.lit (gathered (λ k. band_dots t s glyph c.column ((dot_number w c.at.x c.at.y + s.first) + k * w) row) 0 s.times) pic
    ≡ paint t.lit (gathered (row_dots lie t b glyph c) (row * b.q) b.q) pic
unfolding band_dots mark_rows
band_alike t b glyph c row some top lie fits pic =
    let w = t.window.width in
    let s = bands_of lie b w in
    let foot = dot_number w c.at.x c.at.y + s.first in
    let painted : List ℕ → List ℕ = λ ds. paint t.lit ds pic in
    let band : ℕ → List ℕ = λ k. band_dots t s glyph c.column (foot + k * w) row in
    ⊎_elim
    (λ d. ap painted
    (gathered_along band (λ k. rows_from (band_at s (foot + k * w) row) s.stride s.dots s.lines) 0 0 s.times (λ k h. rw d refl))
    ∙ on_alike t b c row some top lie.turned lie.tilted fits pic
    ∙ ap painted (sym (rows_on lie t b glyph c row d)))
    (λ d. ap painted (gathered_none band 0 s.times (λ k h. rw d refl) ∙ sym (rows_off lie t b glyph c row d)))
    (split (t.down && inked glyph c.column row))

-- and all the bands leave the picture that the column's cycles leave
pub column_painted : (t : Tip) (lie : Lie) {b : Body} (glyph : List ℕ) {c : Cell} {n : ℕ} (start : Spot) → Sized b → Screen t.window n → Counts b c
    → AtFoot t lie b c → OnPlace lie b start c → (pic : List ℕ) → let w = t.window.width in let s = bands_of lie b w in
    paint t.lit (gathered (λ k. bands_dots t s glyph c.column ((dot_number w c.at.x c.at.y + s.first) + k * w) (b.rows / b.q)) 0 s.times) pic
    ≡ paint t.lit (dots_from t (Cells lie b) glyph start c.i (b.p * b.rows)) pic
column_painted t lie {b} glyph {c} start z screen g at place pic =
    let w = t.window.width in
    let s = bands_of lie b w in
    let foot = dot_number w c.at.x c.at.y + s.first in
    let rows = b.rows / b.q in
    let row : ℕ → List ℕ = row_dots lie t b glyph c in
    let band : ℕ → ℕ → List ℕ = λ k j. band_dots t s glyph c.column (foot + k * w) j in
    let all : gathered (λ j. gathered row (j * b.q) b.q) 0 rows ≡ gathered row 0 b.rows =
    gathered_along (λ j. gathered row (j * b.q) b.q) (λ j. gathered (λ v. row (j * b.q + v)) 0 b.q) 0 0 rows
    (λ j h. gathered_along row (λ v. row ((0 + j) * b.q + v)) ((0 + j) * b.q) 0 b.q (λ v m. rw (zero-add v) refl))
    ∙ sym (gathered_columns row b.q 0 rows)
    ∙ rw (zero-mul b.q, ← z.glyph_rows) refl in
    paint_rows t.lit band 0 s.times 0 rows pic
    ∙ paint_alike t.lit (λ j. gathered (λ k. band k j) 0 s.times) (λ j. gathered row (j * b.q) b.q) 0 0 rows
    (λ j h q. band_alike t b glyph c (0 + j) (power_some screen.wide) (rows_in z (rw zero-add h)) lie at.inside q) pic
    ∙ ap (λ (ds : List ℕ). paint t.lit ds pic) all
    ∙ column_rows lie t glyph start g at place (omega (arith, z.rows128)) pic
