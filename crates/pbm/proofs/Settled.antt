-- The statements settle their results: any two results that one allows are equal, and the definition's own result is allowed. What a
-- refusal and what an accepted call leaves follows.
-- Assumes nothing.
use mathlib.Core.Path.{◌≡◌, refl, sym, ap, ◌∙◌}
use mathlib.Core.List.{List, ◌++◌}
use Prim.Native.Nat.{ℕ}
use lib.ListN.{length, drop}
use borrow.Author.Tests.{eq-eqb, ne_eqb}
use Rattle.std.proofs.Common.{Result, Ok, Err}
use Rattle.parts.specs.declared.format.Format.{Format}
use Rattle.parts.specs.declared.refusal.Refusal.{Refusal}
use Rattle.parts.proofs.Laws.{number_some, number_apart}
use Rattle.parts.specs.Format.{width, height}
use Rattle.pbm.specs.declared.answer.Answer.{Answer}
use Rattle.pbm.specs.Contents.{shown}
use Rattle.pbm.specs.Calls.{Outcome, settled, file_of, out_number, written_out, signs_for, in_number, read_in, told, told_read, Leaves}

-- the answer and what is left of the lent memory
pub leaves_settles : {o : Outcome} {r q : Answer} {m n : List ℕ} → Leaves o r m → Leaves o q n → (r ≡ q) × (m ≡ n)
leaves_settles l k = (l.answers ∙ sym k.answers, l.memory ∙ sym k.memory)

pub leaves_met : (o : Outcome) → Leaves o (record { number = o.number; value = o.value }) o.memory
leaves_met o = record { answers = refl; memory = refl }

-- each call, by name
pub write_pbm_settled : (f : Format) (picture buffer : List ℕ) {r q : Answer} {m n : List ℕ}
    → Leaves (written_out f picture buffer) r m → Leaves (written_out f picture buffer) q n → (r ≡ q) × (m ≡ n)
write_pbm_settled f picture buffer = leaves_settles

pub read_pbm_settled : (f : Format) (text picture : List ℕ) {r q : Answer} {m n : List ℕ}
    → Leaves (read_in f text picture) r m → Leaves (read_in f text picture) q n → (r ≡ q) × (m ≡ n)
read_pbm_settled f text picture = leaves_settles

-- the calls themselves give a value or a refusal, and of that what C is told settles it too
pub told_apart : (r q : Result ℕ Refusal) → told r ≡ told q → r ≡ q
unfolding told
told_apart (Ok v) (Ok w) e = ap Ok (ap (λ (a : Answer). a.value) e)
told_apart (Ok v) (Err why) e = absurd (number_some why (sym (ap (λ (a : Answer). a.number) e)))
told_apart (Err why) (Ok w) e = absurd (number_some why (ap (λ (a : Answer). a.number) e))
told_apart (Err why) (Err other) e = ap Err (number_apart (ap (λ (a : Answer). a.number) e))

pub told_read_apart : (r q : Result (Unit {0}) Refusal) → told_read r ≡ told_read q → r ≡ q
unfolding told told_read
told_read_apart (Ok v) (Ok w) e = refl
told_read_apart (Ok v) (Err why) e = absurd (number_some why (sym (ap (λ (a : Answer). a.number) e)))
told_read_apart (Err why) (Ok w) e = absurd (number_some why (ap (λ (a : Answer). a.number) e))
told_read_apart (Err why) (Err other) e = ap Err (number_apart (ap (λ (a : Answer). a.number) e))

-- a refusal has its number and value 0 and writes nothing
module _ (number value : ℕ) (after before : List ℕ) (bad : number ≡ 0 → ⊥) where
  pub refusal_nothing : settled number value after before ≡ record { number = number; value = 0; memory = before }
  unfolding settled
  refusal_nothing = rw (ne_eqb number 0 bad)

pub write_refused : (f : Format) (picture buffer : List ℕ) → (out_number f picture buffer ≡ 0 → ⊥)
    → written_out f picture buffer ≡ record { number = out_number f picture buffer; value = 0; memory = buffer }
unfolding written_out
write_refused f picture buffer bad = refusal_nothing (out_number f picture buffer) _ _ buffer bad

pub read_refused : (f : Format) (text picture : List ℕ) → (in_number f text picture ≡ 0 → ⊥)
    → read_in f text picture ≡ record { number = in_number f text picture; value = 0; memory = picture }
unfolding read_in
read_refused f text picture bad = refusal_nothing (in_number f text picture) 0 _ picture bad

-- accepted, the file stands at the buffer's start and later bytes stay
pub write_accepted : (f : Format) (picture buffer : List ℕ) → out_number f picture buffer ≡ 0
    → written_out f picture buffer
    ≡ record {
      number = 0;
      value = length (file_of f picture);
      memory = file_of f picture ++ drop (length (file_of f picture)) buffer;
    }
unfolding written_out settled
write_accepted f picture buffer good = rw (eq-eqb (out_number f picture buffer) 0 good)

-- and the picture is the one that the file shows
pub read_accepted : (f : Format) (text picture : List ℕ) → in_number f text picture ≡ 0
    → read_in f text picture ≡ record { number = 0; value = 0; memory = shown (width f) (height f) (signs_for f text) }
unfolding read_in settled
read_accepted f text picture good = rw (eq-eqb (in_number f text picture) 0 good)
