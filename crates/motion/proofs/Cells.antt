-- The laws of a cell: its counters go up with its cycle, and its place with them.
-- Assumes nothing.
use mathlib.Core.Path.{◌≡◌, ap, ◌∙◌}
use Prim.Native.Nat.{ℕ, ◌+◌, ◌-◌, ◌*◌, ◌/◌, ◌%◌, ◌≤◌, ◌<◌}
use native.Mathlib.Nat.{add-mul, one-mul}
use native.Mathlib.Omega.{arith}
use Rattle.motion.specs.Position.{moved}
use Rattle.motion.specs.Character.{u_of, v_of, column_of, row_of, laid, body_way}
use Rattle.motion.specs.Working.Cells.{Sized, Counts, OnPlace}
use Rattle.motion.specs.declared.position.Spot.{Spot}
use Rattle.motion.specs.declared.character.Body.{Body}
use Rattle.motion.specs.declared.character.Lie.{Lie}
use Rattle.motion.specs.declared.character.Cell.{Cell}
use Rattle.motion.proofs.Counting.{Splits, splits, whole, split_le}
use Rattle.motion.proofs.Characters.{split_cycle, v_lt, way_at, laid_on, rise_way, carry_way}

-- the counters are the quotients and remainders of i, v and u
module _ {b : Body} {c : Cell} where
  pub counted : {u : ℕ} → Splits c.i b.rows u c.v → Splits c.v b.q c.row c.rowdot
      → Splits u b.p c.column c.columndot → Counts b c
  unfolding u_of v_of column_of row_of
  counted i v u =
      record {
        v = i.rest;
        row = v.quotient ∙ ap (λ (n : ℕ). n / b.q) i.rest;
        rowdot = v.rest ∙ ap (λ (n : ℕ). n % b.q) i.rest;
        column = u.quotient ∙ ap (λ (n : ℕ). n / b.p) i.quotient;
        columndot = u.rest ∙ ap (λ (n : ℕ). n % b.p) i.quotient;
      }

  module _ (g : Counts b c) where
    pub split_i : Splits c.i b.rows (u_of b c.i) c.v
    split_i = rw g.v (split_cycle b c.i)

    pub split_v : Splits c.v b.q c.row c.rowdot
    unfolding row_of
    split_v = rw g.v (record { quotient = g.row; rest = g.rowdot })

    pub split_u : Splits (u_of b c.i) b.p c.column c.columndot
    unfolding column_of
    split_u = record { quotient = g.column; rest = g.columndot }

    -- v, v / Q and v mod Q are below the most rows; u / P and u mod P are not above the cycle's number
    pub counters_small : Sized b
        → (c.v < 128) × (c.row < 128) × (c.rowdot < 128) × (c.column ≤ c.i) × (c.columndot ≤ c.i)
    counters_small s =
        let below = v_lt b s c.i in
        let i = split_le split_i in
        let v = split_le split_v in
        let u = split_le split_u in
        (omega arith, omega arith, omega arith, omega arith, omega arith)

-- where c stands on its place, the next cycle's is one step further
module _ (lie : Lie) {b : Body} {c : Cell} {to : Spot} {i : ℕ} (s : Sized b) (g : Counts b c) (next : i ≡ c.i + 1) where
  pub on_risen : c.v + 1 < b.rows → to ≡ moved c.at (laid lie 0 1)
      → (start : Spot) → OnPlace lie b start c → to ≡ moved start (body_way lie b i)
  on_risen h up start on =
      rw (next, up, on) (rise_way b s lie c.i start (rw g.v at h))

  pub on_carried : b.rows ≤ c.v + 1 → to ≡ moved c.at (laid lie 1 (4096 - c.v))
      → (start : Spot) → OnPlace lie b start c → to ≡ moved start (body_way lie b i)
  on_carried h over start on =
      rw (next, over, on, g.v) (carry_way b s lie c.i start (rw g.v at h))

-- at the first cycle of a column of the glyph, P columns of dots further is the first cycle of the next
module _ {b : Body} {c : Cell} (s : Sized b) (g : Counts b c) (foot : c.v ≡ 0) where
  pub split_past : Splits (c.i + b.p * b.rows) b.rows (u_of b c.i + b.p) 0
  split_past =
      let at = whole (split_i g) in
      splits (u_of b c.i + b.p) s.rows0 (simp add-mul (omega arith))

  pub split_next : c.columndot ≡ 0 → Splits (u_of b c.i + b.p) b.p (c.column + 1) 0
  split_next first =
      let at = whole (split_u g) in
      splits (c.column + 1) s.p0 (simp (add-mul, one-mul) (omega arith))

  pub on_passed : (lie : Lie) {to : Spot} {i : ℕ} → i ≡ c.i + b.p * b.rows → to ≡ moved c.at (laid lie b.p 0)
      → (start : Spot) → OnPlace lie b start c → to ≡ moved start (body_way lie b i)
  on_passed lie next passed start on =
      rw (next, passed, on, way_at lie b split_past, way_at lie b (split_i g), foot)
      (laid_on lie start (u_of b c.i) 0 b.p 0 (omega arith))
