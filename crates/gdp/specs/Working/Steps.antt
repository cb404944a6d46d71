-- A grant as the code goes about it.
-- Assumes nothing.
use Rattle.std.specs.Prelude.{◌≡◌, ℕ, ◌+◌, ◌-◌, ◌*◌, ◌≤◌, cond, not, false, ◌||◌, List, eqb, length}
use Rattle.motion.specs.declared.position.Spot.{Spot}
use Rattle.motion.specs.Position.{spot}
use Rattle.parts.specs.Format.{bytes}
use Rattle.drawing.specs.declared.tip.Run.{Run}
use Rattle.rules.specs.Sequence.{Idle, Steps}
use Rattle.rules.specs.State.{State, with_place, with_regs, with_work, ready_raises}
use Rattle.rules.specs.Calls.{Answer as Verdict}
use Rattle.gdp.specs.declared.state.Gdp.{Gdp}
use Rattle.gdp.specs.declared.state.Answer.{Answer}
use Rattle.gdp.specs.Flat.{flat, format_of}

-- the command's next cycles, k of them
unfoldable pub run_of : Gdp → ℕ → Run
run_of b k = record { at = spot b.x b.y; from = b.done; count = k }

-- refusals 2 and 3, by the lengths of picture and table
abbrev pub memory_number : Gdp → ℕ → ℕ → ℕ
memory_number b p t = cond (not (eqb p (bytes (format_of b)))) 2 (cond (not (eqb t 480)) 3 0)

-- a code's glyph is every dot, or a part of the table
pub record HasTable (c : ℕ) (table : List ℕ) : Type 0 where
  pub low : (eqb c 0x0A || eqb c 0x0B) ≡ false → 32 ≤ c
  pub high : (eqb c 0x0A || eqb c 0x0B) ≡ false → 5 * (c - 32) + 5 ≤ length table

-- an answer with its state as bytes
unfoldable pub flat_answer : Verdict → Answer
flat_answer r = record { number = r.number; value = r.value; state = flat r.state }

-- the answer after k cycles of code c from cycle p on, of m that were left, which lead to a place
unfoldable pub rests_at : State → ℕ → ℕ → ℕ → ℕ → Spot → Verdict
rests_at s c p k m at =
    record {
      number = 0;
      value = k;
      state =
          cond (eqb k m) (ready_raises (with_work Idle (with_regs (with_place at s.regs) s)))
          (with_work (Steps c (p + k)) (with_regs (with_place at s.regs) s));
    }
