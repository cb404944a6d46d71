-- The table of line types: each entry's period and mask are the document's, by tests computed over the table.
-- Assumes nothing.
use mathlib.Core.Path.{◌≡◌, subst}
use mathlib.Core.Bool.{Bool, true, beq}
use mathlib.Core.List.{List, [], ◌∷◌}
use Prim.Native.Nat.{ℕ, ◌%◌, ◌^◌, ◌<◌}
use native.Mathlib.Nat.{mod-lt}
use native.Mathlib.Omega.{arith}
use lib.Dec.{eqb, eqb→eq, leb, leb→le}
use lib.ListN.{length, get_or}
use Rattle.picture.specs.Bit.{bit_at}
use Rattle.picture.proofs.Laws.{power_some}
use Rattle.basis.proofs.Table.{at, every, beq_eq}
use Rattle.motion.specs.LineType.{period, line_on}
use Rattle.motion.specs.Working.Masks.{dashed, Repeats}
use Rattle.motion.specs.declared.line_type.LineType.{LineType}

-- the table, as the code has it
abbrev pub line_types : List LineType
line_types =
    record { period = 1; mask = 0x0001 }
    ∷ record { period = 4; mask = 0x0003 }
    ∷ record { period = 8; mask = 0x000f }
    ∷ record { period = 16; mask = 0x33ff }
    ∷ []

-- entry t of the table
abbrev none : LineType
none = record { period = 0; mask = 0 }

abbrev pub entry : ℕ → LineType
entry t = get_or line_types t none

-- the periods are these powers of two
abbrev powers : List ℕ
powers = 0 ∷ 2 ∷ 3 ∷ 4 ∷ []

-- bit j of a mask is dot j of the period
abbrev bit_right : ℕ → ℕ → Bool → Bool
bit_right m j b = beq (bit_at j m) b

module _ (t : ℕ) (h : t < 4) where
  -- the periods are the document's
  pub period_is : (entry t).period ≡ length (period t)
  period_is = eqb→eq (entry t).period (length (period t)) (at (λ t e. eqb e.period (length (period t))) none line_types tt t h)

  -- and so is each dot of each
  pub mask_is : (j : ℕ) → j < length (period t) → bit_at j (entry t).mask ≡ get_or (period t) j true
  mask_is j l =
      beq_eq (bit_at j (entry t).mask) (get_or (period t) j true)
      (at (bit_right (entry t).mask) true (period t) (at (λ t e. every (bit_right e.mask) 0 (period t)) none line_types tt t h) j l)

  -- every period is a power of two, at most 16
  pub repeats : Repeats (entry t)
  repeats =
      record {
        power =
            let test = at (λ t e. eqb e.period (2 ^ get_or powers t 0)) none line_types tt t h in
            (get_or powers t 0, eqb→eq (entry t).period (2 ^ get_or powers t 0) test);
        short = leb→le (entry t).period 16 (at (λ t e. leb e.period 16) none line_types tt t h);
      }

-- the table has the document's line types
pub dashed_is : (ctrl2 i : ℕ) → dashed (entry (ctrl2 % 4)) i ≡ line_on ctrl2 i
unfolding dashed line_on
dashed_is ctrl2 i =
    let t = ctrl2 % 4 in
    let h : t < 4 = omega arith in
    let in-period = subst (λ (n : ℕ). i % n < n) (period_is t h) (mod-lt i (power_some (repeats t h).power)) in
    rw (period_is t h) (mask_is t h (i % length (period t)) in-period)
