-- The calls over sixteen bytes are those of crate rules over the state that the bytes stand for.
-- Assumes nothing.
use Rattle.std.specs.Prelude.{◌≡◌, ℕ, List, Bool, cond, not, ◌||◌, eqb, ltb, Result, Ok, Err}
use Rattle.parts.specs.declared.refusal.Refusal.{Refusal}
use Rattle.parts.specs.declared.address.Address.{Address}
use Rattle.parts.specs.Refusal.{refusal_number}
use Rattle.rules.specs.State.{fresh}
use Rattle.rules.specs.Figure.{tables}
use Rattle.rules.specs.Refusals.{bad}
use Rattle.rules.specs.Calls.{Answer as Verdict, Memory, memory, Outcome, Located, granted, blanked}
use Rattle.gdp.specs.declared.state.Gdp.{Gdp}
use Rattle.gdp.specs.declared.state.Reply.{Reply}
use Rattle.gdp.specs.declared.state.Answer.{Answer}
use Rattle.gdp.specs.declared.address.Outputs.{Outputs}
use Rattle.parts.specs.Format.{format_at}
use Rattle.gdp.specs.Flat.{flat, named, state_of}

-- 1: a number names no format, no kind of work or no pen sequence, or the state is one that the processor cannot be in
unfoldable pub flawed : Gdp → Bool
flawed b = not (named b) || bad (state_of b)

-- a refusal: value 0, and the bytes as handed in
abbrev pub refusal : ℕ → Gdp → Answer
refusal number b = record { number = number; value = 0; state = b }

-- what a call with bytes b gives, as C has it: accepted, number 0, the value and the bytes of the next state
abbrev pub as_answer : Gdp → Result Reply Refusal → Answer
as_answer b (Ok r) = record { number = 0; value = r.value; state = r.state }
as_answer b (Err why) = refusal (refusal_number why) b

-- the definition's answer r to a call with bytes b: accepted, the bytes of its state, with what is not in use 0; refused, b.
-- Bytes that name nothing are refused with 1
unfoldable pub answer_of : Gdp → Verdict → Answer
answer_of b r =
    cond (named b) (record { number = r.number; value = r.value; state = cond (eqb r.number 0) (flat r.state) b })
    (refusal 1 b)

-- the form of a statement about a call that is lent memories: r is its answer, and it leaves after of before
pub record Leaves (b : Gdp) (o : Outcome) (before : Memory) (r : Answer) (after : Memory) : Type 0 where
  pub answers : r ≡ answer_of b o.answer
  pub memories : after ≡ cond (named b) o.memory before

-- a grant of n cycles, lent a picture and a table, answers r and leaves picture p
abbrev pub Grants : Gdp → ℕ → List ℕ → List ℕ → Answer → List ℕ → Type 0
Grants b n picture table r p = Leaves b (granted (state_of b) n (memory picture) (tables table)) (memory picture) r (memory p)

-- a VB call, lent a picture, likewise
abbrev pub Blanks : Gdp → Bool → List ℕ → Answer → List ℕ → Type 0
Blanks b level picture r p = Leaves b (blanked (state_of b) level (memory picture)) (memory picture) r (memory p)

-- VB's level by a byte: 0 is low, any other is high
abbrev pub level_of : ℕ → Bool
level_of b = not (eqb b 0)

-- the address outputs as C has them: accepted, number 0; refused, three zeros
abbrev pub as_outputs : Result Address Refusal → Outputs
as_outputs (Ok a) = record { number = 0; low = a.low; high = a.high; msl = a.msl }
as_outputs (Err why) = record { number = refusal_number why; low = 0; high = 0; msl = 0 }

-- the address outputs by the definition
unfoldable pub outputs_of : Gdp → Located → Outputs
outputs_of b l =
    cond (named b) (record { number = l.number; low = l.address.low; high = l.address.high; msl = l.address.msl })
    (record { number = 1; low = 0; high = 0; msl = 0 })

-- every byte 255: what stands for no state
unfoldable pub all_ones : Gdp
all_ones =
    record {
      x = 65535;
      y = 65535;
      done = 65535;
      ctrl1 = 255;
      ctrl2 = 255;
      csize = 255;
      deltax = 255;
      deltay = 255;
      xlp = 255;
      ylp = 255;
      code = 255;
      modes = 255;
      signals = 255;
    }

-- the fresh state of format n; a number of none is refused with 1
unfoldable pub fresh_answer : ℕ → Answer
fresh_answer n =
    cond (ltb n 3) (record { number = 0; value = 0; state = flat (fresh (format_at n)) })
    (refusal 1 all_ones)
