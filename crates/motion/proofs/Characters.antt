-- The laws of characters and blocks: how many cycles one takes, that each dot of its body is the place of exactly one
-- cycle, how the place steps from cycle to cycle, and where it is at the end. Once for every body.
-- Assumes nothing.
use mathlib.Core.Path.{◌≡◌, refl, sym, ◌∙◌}
use mathlib.Core.Bool.{Bool, true, false}
use mathlib.Core.Logic.{⊎_elim}
use Prim.Native.Nat.{ℕ, ◌+◌, ◌-◌, ◌*◌, ◌/◌, ◌≤◌, ◌<◌}
use native.Mathlib.Nat.{mul-mul-mul_comm, mul_assoc, mul-le-mul, mod-lt, div-lt_iff_lt-mul, add-zero, le_refl, lt_of_lt_of_le}
use native.Mathlib.Omega.{arith}
use lib.Arith.{digits_lt, digits_div, digits_mod}
use lib.Dec.{eqb}
use borrow.Author.Tests.{eqb-false}
use Rattle.basis.proofs.Cases.{split}
use Rattle.motion.specs.Position.{moved}
use Rattle.motion.specs.Character.{scale, scale_p, scale_q, character_of, block_of, body_cycles, u_of, v_of, column_of, row_of, lying, along, laid, body_way, body_end}
use Rattle.motion.specs.Working.Cells.{body_by, Sized}
use Rattle.motion.specs.declared.position.Spot.{Spot}
use Rattle.motion.specs.declared.character.Body.{Body}
use Rattle.motion.specs.declared.character.Lie.{Lie}
use Rattle.motion.proofs.Positions.{ahead_sum, same_spot}
use Rattle.motion.proofs.Counting.{Splits, splits, whole, split_within, split_over}

-- 0 means 16, so what is scaled is above 0, and of four bits at most 16: P and Q are 1 to 16
pub scale_some : (n : ℕ) → 0 < scale n
unfolding scale
scale_some n = ⊎_elim (λ t. rw t (omega arith)) (λ t. rw t (omega (arith, eqb-false n 0 t))) (split (eqb n 0))

pub scale_most : (n : ℕ) → n < 16 → scale n ≤ 16
unfolding scale
scale_most n h = ⊎_elim (λ t. rw t (omega arith)) (λ t. rw t (omega arith)) (split (eqb n 0))

pub p_some : (csize : ℕ) → 0 < scale_p csize
unfolding scale_p
p_some csize = scale_some _

pub q_some : (csize : ℕ) → 0 < scale_q csize
unfolding scale_q
q_some csize = scale_some _

pub p_most : (csize : ℕ) → csize < 256 → scale_p csize ≤ 16
unfolding scale_p
p_most csize h = scale_most _ (omega arith)

pub q_most : (csize : ℕ) → csize < 256 → scale_q csize ≤ 16
unfolding scale_q
q_most csize h = scale_most _ (omega arith)

-- k × P by l × Q dots are k × l × P × Q, and the most is at P = Q = 16
product : (k l p q : ℕ) → k * p * (l * q) ≡ k * l * p * q
product k l p q = mul-mul-mul_comm k p l q ∙ sym (mul_assoc (k * l) p q)

product_most : (k p q : ℕ) → p ≤ 16 → q ≤ 16 → k * p * q ≤ k * 16 * 16
product_most k p q hp hq = mul-le-mul (mul-le-mul (le_refl k) hp) hq

-- a character takes 48 × P × Q cycles, a block 16 × P × Q
pub character_cycles : (csize : ℕ) → body_cycles (character_of csize) ≡ 48 * scale_p csize * scale_q csize
unfolding body_cycles character_of
character_cycles csize = product 6 8 (scale_p csize) (scale_q csize)

pub block_cycles : (csize : ℕ) → body_cycles (block_of csize) ≡ 16 * scale_p csize * scale_q csize
unfolding body_cycles block_of
block_cycles csize = product 4 4 (scale_p csize) (scale_q csize)

-- of any byte CSIZE
module _ (csize : ℕ) (h : csize < 256) where
  -- one to eight times Q rows are a size, however wide
  pub body_sized : (wide high : ℕ) → 0 < high → high ≤ 8 → Sized (body_by csize wide high)
  body_sized wide high some most =
      let q = scale_q csize in
      let least : 1 * q ≤ high * q = mul-le-mul {n₁ = 1} {m₁ = q} {n₂ = high} {m₂ = q} some (le_refl q) in
      let top : high * q ≤ 8 * q = mul-le-mul {n₁ = high} {m₁ = q} {n₂ = 8} {m₂ = q} most (le_refl q) in
      let whole : high * q / q ≡ high = rw (← add-zero (high * q)) (digits_div high (q_some csize)) in
      record {
        p0 = p_some csize;
        p16 = p_most csize h;
        q0 = q_some csize;
        q16 = q_most csize h;
        rows0 = omega (arith, q_some csize);
        rows128 = omega (arith, q_most csize h);
        glyph_rows = rw whole refl;
      }

  -- its bodies are sized
  pub character_sized : Sized (character_of csize)
  unfolding character_of
  character_sized = body_sized 6 8 (omega arith) (omega arith)

  pub block_sized : Sized (block_of csize)
  unfolding block_of
  block_sized = body_sized 4 4 (omega arith) (omega arith)

  -- the most cycles
  pub character_most : body_cycles (character_of csize) ≤ 12288
  character_most = rw character_cycles (product_most 48 (scale_p csize) (scale_q csize) (p_most csize h) (q_most csize h))

  pub block_most : body_cycles (block_of csize) ≤ 4096
  block_most = rw block_cycles (product_most 16 (scale_p csize) (scale_q csize) (p_most csize h) (q_most csize h))

module _ (b : Body) where
  -- u and v of a cycle are its quotient by the rows and its remainder
  pub split_cycle : (i : ℕ) → Splits i b.rows (u_of b i) (v_of b i)
  unfolding u_of v_of
  split_cycle i = record { quotient = refl; rest = refl }

  -- every (u, v) of the body is the place of the cycle u × rows + v, and of no other
  pub cycle_in : (u v : ℕ) → u < b.columns → v < b.rows → u * b.rows + v < body_cycles b
  unfolding body_cycles
  cycle_in u v hu hv = digits_lt hu hv

  pub cycle_u : (u v : ℕ) → v < b.rows → u_of b (u * b.rows + v) ≡ u
  unfolding u_of
  cycle_u u v hv = digits_div u hv

  pub cycle_v : (u v : ℕ) → v < b.rows → v_of b (u * b.rows + v) ≡ v
  unfolding v_of
  cycle_v u v hv = digits_mod u hv

  pub cycle_only : (i u v : ℕ) → u_of b i ≡ u → v_of b i ≡ v → i ≡ u * b.rows + v
  cycle_only i u v eu ev = rw (← eu, ← ev) (whole (split_cycle i))

-- of a body that CSIZE can give
module _ (b : Body) (s : Sized b) where
  -- every cycle's place is in the body
  pub u_lt : (i : ℕ) → i < body_cycles b → u_of b i < b.columns
  unfolding u_of body_cycles
  u_lt i h = (div-lt_iff_lt-mul s.rows0).1 h

  pub v_lt : (i : ℕ) → v_of b i < b.rows
  unfolding v_of
  v_lt i = mod-lt i s.rows0

  -- and its column and row in the glyph: below k where the body has k × P columns, below k where it has k × Q rows
  pub column_lt : (k i : ℕ) → b.columns ≤ k * b.p → i < body_cycles b → column_of b i < k
  unfolding column_of
  column_lt k i most h = (div-lt_iff_lt-mul s.p0).1 (lt_of_lt_of_le (u_lt i h) most)

  pub row_lt : (k i : ℕ) → b.rows ≤ k * b.q → row_of b i < k
  unfolding row_of
  row_lt k i most = (div-lt_iff_lt-mul s.q0).1 (lt_of_lt_of_le (v_lt i) most)

-- a character has 6 columns and 8 rows, a block 4 and 4
module _ (csize : ℕ) (h : csize < 256) (i : ℕ) where
  pub character_column : i < body_cycles (character_of csize) → column_of (character_of csize) i < 6
  unfolding character_of
  character_column = column_lt (character_of csize) (character_sized csize h) 6 i (le_refl (6 * scale_p csize))

  pub character_row : row_of (character_of csize) i < 8
  unfolding character_of
  character_row = row_lt (character_of csize) (character_sized csize h) 8 i (le_refl (8 * scale_q csize))

  pub block_column : i < body_cycles (block_of csize) → column_of (block_of csize) i < 4
  unfolding block_of
  block_column = column_lt (block_of csize) (block_sized csize h) 4 i (le_refl (4 * scale_p csize))

  pub block_row : row_of (block_of csize) i < 4
  unfolding block_of
  block_row = row_lt (block_of csize) (block_sized csize h) 4 i (le_refl (4 * scale_q csize))

-- the way to a cycle from its u and v
pub way_at : (lie : Lie) (b : Body) {i u v : ℕ} → Splits i b.rows u v → body_way lie b i ≡ laid lie u v
unfolding body_way u_of v_of
way_at lie b p = rw (p.quotient, p.rest)

-- what holds of the four ways that letters lie holds of each
four : (A : Lie → Type 0) → A (lying false false) → A (lying false true) → A (lying true false) → A (lying true true) → (lie : Lie) → A lie
four A straight slanted standing slanted_up lie = go lie.turned lie.tilted
  where
    go : (turned tilted : Bool) → A (lying turned tilted)
    go false false = straight
    go false true = slanted
    go true false = standing
    go true true = slanted_up

-- the ways to dots add up: (u, v) and then (m, n) is (u + m, v + n)
module _ (lie : Lie) (start : Spot) (u v m n : ℕ) (h : v + n ≤ 4096) where
  pub laid_on : moved (moved start (laid lie u v)) (laid lie m n) ≡ moved start (laid lie (u + m) (v + n))
  unfolding moved laid along
  laid_on =
      four (λ l. moved (moved start (laid l u v)) (laid l m n) ≡ moved start (laid l (u + m) (v + n)))
      (same_spot (ahead_sum _ _ _ _ (omega arith)) (ahead_sum _ _ _ _ (omega arith)))
      (same_spot (ahead_sum _ _ _ _ (omega arith)) (ahead_sum _ _ _ _ (omega arith)))
      (same_spot (ahead_sum _ _ _ _ (omega arith)) (ahead_sum _ _ _ _ (omega arith)))
      (same_spot (ahead_sum _ _ _ _ (omega arith)) (ahead_sum _ _ _ _ (omega arith)))
      lie

-- and 4,096 dots up lead back to the foot
pub laid_around : (lie : Lie) (start : Spot) (u : ℕ) → moved start (laid lie u 4096) ≡ moved start (laid lie u 0)
unfolding moved laid along
laid_around lie start u =
    four (λ l. moved start (laid l u 4096) ≡ moved start (laid l u 0))
    (same_spot refl (omega arith))
    (same_spot (omega arith) (omega arith))
    (same_spot (omega arith) refl)
    (same_spot (omega arith) (omega arith))
    lie

module _ (b : Body) (s : Sized b) (lie : Lie) where
  -- within a column v is one more; at its top u is one more, and v starts again
  module _ (i : ℕ) where
    pub rise : v_of b i + 1 < b.rows → Splits (i + 1) b.rows (u_of b i) (v_of b i + 1)
    rise = split_within (split_cycle b i)

    pub carry : b.rows ≤ v_of b i + 1 → Splits (i + 1) b.rows (u_of b i + 1) 0
    carry = split_over (split_cycle b i) s.rows0

    v_most : v_of b i < 128
    v_most = omega (arith, v_lt b s i, s.rows128)

    -- so within a column the place goes one dot up
    pub rise_way : (start : Spot) → v_of b i + 1 < b.rows
        → moved (moved start (body_way lie b i)) (laid lie 0 1) ≡ moved start (body_way lie b (i + 1))
    rise_way start h =
        rw (way_at lie b (rise h), way_at lie b (split_cycle b i))
        (rw add-zero at (laid_on lie start (u_of b i) (v_of b i) 0 1 (omega (arith, v_most))))

    -- and at its top it goes one along and around to the foot: up by what v lacks of 4,096
    pub carry_way : (start : Spot) → b.rows ≤ v_of b i + 1
        → moved (moved start (body_way lie b i)) (laid lie 1 (4096 - v_of b i)) ≡ moved start (body_way lie b (i + 1))
    carry_way start h =
        let around : v_of b i + (4096 - v_of b i) ≡ 4096 = omega (arith, v_most) in
        rw (way_at lie b (carry h), way_at lie b (split_cycle b i))
        (laid_on lie start (u_of b i) (v_of b i) 1 (4096 - v_of b i) (omega (arith, v_most)) ∙ rw around (laid_around lie start (u_of b i + 1)))

  -- one past the last cycle is the foot of the column after the last
  end_split : Splits (body_cycles b) b.rows b.columns 0
  unfolding body_cycles
  end_split = splits b.columns s.rows0 (sym (add-zero (b.columns * b.rows)))

  -- there X has grown by the columns and Y is restored; turned, Y has grown and X is restored
  pub end_way_lem : (start : Spot) → moved start (body_way lie b (body_cycles b)) ≡ moved start (body_end lie b)
  unfolding body_end moved laid along
  end_way_lem start =
      rw (way_at lie b end_split)
      (four (λ l. moved start (laid l b.columns 0) ≡ moved start (body_end l b))
      (same_spot (omega arith) (omega arith))
      (same_spot (omega arith) (omega arith))
      (same_spot (omega arith) (omega arith))
      (same_spot (omega arith) (omega arith))
      lie)
