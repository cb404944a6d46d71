-- What the code does at a line: the call that it asks for, and the definition's step.
-- Assumes nothing.
use Rattle.std.specs.Prelude.{◌≡◌, ℕ, ◌+◌, ◌≤◌, List, Result, Ok, Err}
use Rattle.parts.specs.declared.refusal.Refusal.{Refusal}
use Rattle.parts.specs.Refusal.{refusal_number}
use Rattle.text.specs.declared.write.Writer.{Writer}
use Rattle.text.specs.Working.Writes.{Writes}
use Rattle.rules.specs.Figure.{tables}
use Rattle.rules.specs.Calls.{memory}
use Rattle.rules.specs.Card.{Card, outcome_of}
use Rattle.gdp.specs.declared.state.Gdp.{Gdp}
use Rattle.gdp.specs.declared.state.Answer.{Answer}
use Rattle.gdp.specs.Flat.{flat, state_of}
use Rattle.gdp.specs.Calls.{refusal}
use Rattle.gdp.specs.Working.Steps.{flat_answer}
use Rattle.panel.specs.declared.parse.Record.{Record as Parsed}
use Rattle.panel.specs.Record.{Record}
use Rattle.panel.specs.Panel.{card_after, answer_to}
use Rattle.panel.specs.Working.Parsed.{event_of}

-- the card whose state stands in bytes s, with a picture and a table
abbrev pub card_at : Gdp → List ℕ → List ℕ → Card
card_at s picture table = record { state = state_of s; memory = memory picture; tables = tables table }

-- bytes as an accepted call hands them back: what is not in use is 0
abbrev pub Tidy : Gdp → Type 0
Tidy s = s ≡ flat (state_of s)

-- what a call answers that leaves bytes t: a value, or a refusal, which leaves them as they were
abbrev pub answer_left : Gdp → Result ℕ Refusal → Answer
answer_left t (Ok v) = record { number = 0; value = v; state = t }
answer_left t (Err why) = refusal (refusal_number why) t

-- the call that a record asks for, on bytes s with a picture and a table: it answers a, and leaves picture q
pub record Called (s : Gdp) (p table : List ℕ) (r : Parsed) (a : Answer) (q : List ℕ) : Type 0 where
  pub answers : a ≡ flat_answer (outcome_of (card_at s p table) (event_of r)).answer
  pub memories : memory q ≡ (outcome_of (card_at s p table) (event_of r)).memory

-- record r was played as line k on bytes s, with a picture and a table: bytes t, picture q and its answer, written by w, follow
pub record Stepped (k : ℕ) (s : Gdp) (p table : List ℕ) (r : Record) (w : Writer) (t : Gdp) (q : List ℕ) (v : Writer) : Type 0 where
  pub card : card_at t q table ≡ card_after (card_at s p table) r
  pub tidy : Tidy t
  pub text : Writes w (answer_to k (card_at s p table) r) v
  pub short : v.at ≤ w.at + 11
