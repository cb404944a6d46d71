-- What may come between the writes of a list: a read, a VB level and an LPCK edge change only what no list looks at, unless a
-- clear runs.
-- Assumes nothing.
use mathlib.Core.Path.{◌≡◌, refl, ap, ◌∙◌}
use mathlib.Core.Bool.{Bool, false, ◌||◌}
use Prim.Native.Nat.{ℕ}
use lib.Dec.{eqb}
use Rattle.basis.proofs.Cases.{cond_case}
use Rattle.rules.specs.Sequence.{Work, light_pen_open}
use Rattle.rules.specs.State.{State, with_work, light_pen_raises, vb_raises}
use Rattle.rules.specs.Registers.{light_pen_read, after_read}
use Rattle.rules.specs.Blanking.{fallen, clear_ends, light_pen_ends, risen, after_vb, after_edge}
use Rattle.rules.specs.Calls.{Memory, answer, outcome, read_out, blanked, struck}
use Rattle.rules.proofs.Laws.{clears, falls_same, rises_same, none_ends}
use Rattle.lists.proofs.Items.{Kept}
use Rattle.lists.proofs.Twin.{core}

-- state t is s but for what no list looks at, and has its CTRL1
pub record Aside (s t : State) : Type 0 where
  pub same : core t ≡ core s
  pub ctrl1 : t.regs.ctrl1 ≡ s.regs.ctrl1

stays : {s t : State} → core t ≡ core s → t.regs.ctrl1 ≡ s.regs.ctrl1 → Aside s t
stays e c = record { same = e; ctrl1 = c }

pub aside_kept : {s t : State} → clears s.work ≡ false → Aside s t → Kept s t
aside_kept n a =
    record {
      format = ap (λ (u : State). u.format) a.same;
      ctrl1 = a.ctrl1;
      clear = ap (λ (u : State). clears u.work) a.same ∙ n;
    }

-- what a call answers is so where its next state is
answer_aside : (number value : ℕ) {t s : State} → Aside s t → Aside s (answer number value t s).state
unfolding answer
answer_aside number value {s = s} a = cond_case (Aside s) (eqb number 0) (λ _. a) (λ _. stays refl refl)

-- a read clears the flags, or bit 0 of XLP
pub read_aside : (s : State) (a : ℕ) → Aside s (read_out s a).state
unfolding read_out after_read light_pen_read
read_aside s a =
    answer_aside _ _
    (cond_case (Aside s) (eqb a 0x0) (λ _. stays refl refl)
    (λ _. cond_case (Aside s) (eqb a 0xC || eqb a 0xD) (λ _. stays refl refl) (λ _. stays refl refl)))

-- an LPCK edge loads XLP and YLP and ends the pen's sequence
pub edge_aside : (s : State) (h v : ℕ) → Aside s (struck s h v).state
unfolding struck after_edge light_pen_raises
edge_aside s h v = answer_aside _ _ (cond_case (Aside s) (light_pen_open s.light_pen) (λ _. stays refl refl) (λ _. stays refl refl))

-- a VB level, where no clear runs
module _ (s : State) (n : clears s.work ≡ false) where
  fallen_aside : Aside s (fallen s)
  unfolding fallen
  fallen_aside = stays (ap (λ (w : Work). core (with_work w s)) (falls_same s.work n)) refl

  ends_aside : Aside s (light_pen_ends (clear_ends s))
  unfolding light_pen_ends clear_ends light_pen_raises
  ends_aside = rw (none_ends s n, rises_same s.work n) (cond_case (Aside s) (light_pen_open s.light_pen) (λ _. stays refl refl) (λ _. stays refl refl))

  risen_aside : Aside s (risen s)
  unfolding risen vb_raises
  risen_aside = stays ends_aside.same ends_aside.ctrl1

  vb_answer : (level : Bool) → Aside s (after_vb s level)
  unfolding after_vb
  vb_answer level =
      cond_case (Aside s) s.vb
      (λ _. cond_case (Aside s) level (λ _. stays refl refl) (λ _. fallen_aside))
      (λ _. cond_case (Aside s) level (λ _. risen_aside) (λ _. stays refl refl))

  pub vb_aside : (level : Bool) (m : Memory) → Aside s (blanked s level m).answer.state
  unfolding blanked outcome
  vb_aside level m = answer_aside _ _ (vb_answer level)
