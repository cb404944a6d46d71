-- A record played by its call: what the call answers, once it is written, makes the definition's step.
-- Assumes nothing.
use mathlib.Core.Path.{◌≡◌, refl, sym, ap, ◌∙◌, subst}
use mathlib.Core.Bool.{Bool}
use mathlib.Core.List.{List}
use Prim.Native.Nat.{ℕ, ◌+◌, ◌≤◌}
use Rattle.std.specs.Prelude.{Some, None}
use Rattle.text.specs.declared.write.Writer.{Writer}
use Rattle.text.specs.Working.Writes.{Writes}
use Rattle.parts.specs.declared.format.Format.TheVariants.{Ef9366}
use Rattle.rules.specs.State.{fresh}
use Rattle.rules.specs.Figure.{tables}
use Rattle.rules.specs.Calls.{written, read_out, struck}
use Rattle.rules.specs.Card.{Card, Event, W, R, T, VB, LP, next, outcome_of}
use Rattle.rules.specs.Working.Frames.{FrameToCome}
use Rattle.rules.proofs.Laws.{fresh_frame, write_frame, read_frame, grant_frame, blank_frame, edge_frame}
use Rattle.gdp.specs.declared.state.Gdp.{Gdp}
use Rattle.gdp.specs.declared.state.Answer.{Answer}
use Rattle.gdp.specs.Flat.{flat, state_of}
use Rattle.gdp.specs.Calls.{answer_of, Grants, Blanks}
use Rattle.gdp.specs.Working.Steps.{flat_answer}
use Rattle.gdp.proofs.Laws.{back, stands_frame, written_across, read_across, granted_across, blanked_across, struck_across}
use Rattle.panel.specs.declared.parse.Record.{Record as Parsed}
use Rattle.panel.specs.declared.parse.Record.TheVariants.{Write as write, Read as read, Cycles as cycles, Blanking as blanking, Edge as edge}
use Rattle.panel.specs.Answer.{line_e, answered}
use Rattle.panel.specs.Panel.{glyphs, dark, card, card_after, answer_to}
use Rattle.panel.specs.Working.Parsed.{meant, event_of, text_of, HasAddress}
use Rattle.panel.specs.Working.Played.{card_at, Tidy, Called, Stepped}
use Rattle.panel.proofs.Answers.{read_address}

-- a call on tidy bytes answers what it answers on the bytes of their state
tidied : {A : Type 0} {s : Gdp} (f : Gdp → A) → Tidy s → {x : A} → f (flat (state_of s)) ≡ x → f s ≡ x
tidied f tidy e = ap f tidy ∙ e

-- what each call does
module _ {s : Gdp} (tidy : Tidy s) {p t : List ℕ} {r : Answer} where
  pub write_called : {a v : ℕ} → r ≡ answer_of s (written (state_of s) a v) → Called s p t (write a v) r p
  unfolding outcome_of event_of
  write_called {a} {v} e =
      record {
        answers = e ∙ tidied (λ b. answer_of b (written (state_of b) a v)) tidy (written_across (state_of s) (stands_frame s) a v);
        memories = refl;
      }

  pub read_called : {a : ℕ} → r ≡ answer_of s (read_out (state_of s) a) → Called s p t (read a) r p
  unfolding outcome_of event_of
  read_called {a} e =
      record {
        answers = e ∙ tidied (λ b. answer_of b (read_out (state_of b) a)) tidy (read_across (state_of s) (stands_frame s) a);
        memories = refl;
      }

  pub edge_called : {h v : ℕ} → r ≡ answer_of s (struck (state_of s) h v) → Called s p t (edge h v) r p
  unfolding outcome_of event_of
  edge_called {h} {v} e =
      record {
        answers = e ∙ tidied (λ b. answer_of b (struck (state_of b) h v)) tidy (struck_across (state_of s) (stands_frame s) h v);
        memories = refl;
      }

  pub cycles_called : {n : ℕ} {q : List ℕ} → Grants s n p t r q → Called s p t (cycles n) r q
  unfolding outcome_of event_of
  cycles_called {n} {q} o =
      let x = granted_across (state_of s) (stands_frame s) n p t (subst (λ (b : Gdp). Grants b n p t r q) tidy o) in
      record { answers = x.answers; memories = x.memories }

  pub blanking_called : {level : Bool} {q : List ℕ} → Blanks s level p r q → Called s p t (blanking level) r q
  unfolding outcome_of event_of
  blanking_called {level} {q} o =
      let x = blanked_across (state_of s) (stands_frame s) level p (subst (λ (b : Gdp). Blanks b level p r q) tidy o) in
      record { answers = x.answers; memories = x.memories }

-- a frame is to come after each event
outcome_frame : (c : Card) (e : Event) → FrameToCome c.state → FrameToCome (outcome_of c e).answer.state
unfolding outcome_of
outcome_frame c (W a v) h = write_frame c.state h a v
outcome_frame c (R a) h = read_frame c.state h a
outcome_frame c (T n) h = grant_frame c.state h n c.memory c.tables
outcome_frame c (VB level) h = blank_frame c.state h level c.memory
outcome_frame c (LP x y) h = edge_frame c.state h x y

-- the definition's step for a record is that for its event
card_is : (c : Card) (r : Parsed) → card_after c (meant (Some r)) ≡ next c (event_of r)
unfolding card_after event_of
card_is c (write a v) = refl
card_is c (read a) = refl
card_is c (cycles n) = refl
card_is c (blanking level) = refl
card_is c (edge h v) = refl

text_is : (k : ℕ) (c : Card) (r : Parsed)
    → answer_to k c (meant (Some r)) ≡ answered k (outcome_of c (event_of r)).answer.number (text_of r (outcome_of c (event_of r)).answer.value)
unfolding answer_to event_of text_of
text_is k c (write a v) = refl
text_is k c (read a) = refl
text_is k c (cycles n) = refl
text_is k c (blanking level) = refl
text_is k c (edge h v) = refl

module _ {s : Gdp} {p t q : List ℕ} {r : Parsed} {a : Answer} (h : Called s p t r a q) where
  left : FrameToCome (outcome_of (card_at s p t) (event_of r)).answer.state
  left = outcome_frame (card_at s p t) (event_of r) (stands_frame s)

  -- what is written makes the step whole
  pub called_stepped : {k : ℕ} {w v : Writer} → Writes w (answered k a.number (text_of r a.value)) v → v.at ≤ w.at + 11
      → Stepped k s p t (meant (Some r)) w a.state q v
  unfolding next flat_answer
  called_stepped {k} text short =
      let given : state_of a.state ≡ (outcome_of (card_at s p t) (event_of r)).answer.state = rw h.answers (back _ left) in
      record {
        card = (λ j. record { state = given j; memory = h.memories j; tables = tables t }) ∙ sym (card_is (card_at s p t) r);
        tidy = rw h.answers (ap flat (sym (back _ left)));
        text = rw (text_is k (card_at s p t) r) (rw h.answers at text);
        short = short;
      }

-- an accepted read is of an address
pub called_address : {s : Gdp} {p t q : List ℕ} {a : Answer} (r : Parsed) → Called s p t r a q → a.number ≡ 0 → HasAddress r
unfolding outcome_of event_of flat_answer
called_address (write x v) h e = tt
called_address {s} (read x) h e = read_address (state_of s) x (rw h.answers at e)
called_address (cycles n) h e = tt
called_address (blanking level) h e = tt
called_address (edge x y) h e = tt

-- a line that is no record
pub malformed_stepped : {k : ℕ} {s : Gdp} {p t : List ℕ} {w v : Writer} → Tidy s → Writes w (line_e k 20) v → v.at ≤ w.at + 11
    → Stepped k s p t (meant None) w s p v
unfolding card_after answer_to
malformed_stepped tidy text short = record { card = refl; tidy = tidy; text = text; short = short }

-- the bytes of the fresh state, with a dark picture and a blank table, are the panel's card
pub started : {s : Gdp} {p t : List ℕ} → s ≡ flat (fresh Ef9366) → p ≡ dark → t ≡ glyphs → card_at s p t ≡ card
unfolding card
started e hp ht = rw (e, hp, ht, back (fresh Ef9366) (fresh_frame Ef9366))

pub started_tidy : {s : Gdp} → s ≡ flat (fresh Ef9366) → Tidy s
started_tidy e = rw e (ap flat (sym (back (fresh Ef9366) (fresh_frame Ef9366))))
