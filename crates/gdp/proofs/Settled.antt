-- A statement of the form that the calls use settles its result: any two results that it allows are equal, and the
-- definition's own result is allowed.
-- Assumes nothing.
use mathlib.Core.Path.{◌≡◌, refl, sym, ap, ◌∙◌}
use mathlib.Core.Bool.{Bool, cond}
use mathlib.Core.List.{List}
use Prim.Native.Nat.{ℕ}
use Rattle.std.proofs.Common.{Result, Ok, Err}
use Rattle.parts.specs.declared.refusal.Refusal.{Refusal}
use Rattle.parts.specs.declared.address.Address.{Address}
use Rattle.parts.proofs.Laws.{number_some, number_apart}
use Rattle.rules.specs.Calls.{Memory, Outcome, written, read_out, struck, located}
use Rattle.gdp.specs.declared.state.Gdp.{Gdp}
use Rattle.gdp.specs.declared.state.Reply.{Reply}
use Rattle.gdp.specs.declared.state.Answer.{Answer}
use Rattle.gdp.specs.declared.address.Outputs.{Outputs}
use Rattle.gdp.specs.Flat.{named, state_of}
use Rattle.gdp.specs.Calls.{as_answer, answer_of, Leaves, Grants, Blanks, as_outputs, outputs_of, fresh_answer}

-- a call that is lent nothing: `r ≡ ..`
pub settles {ℓ} : {A : Type ℓ} {x r q : A} → r ≡ x → q ≡ x → r ≡ q
settles e f = e ∙ sym f

-- a call that is lent memories: its answer and what it leaves of them
pub leaves_settles : {b : Gdp} {o : Outcome} {before : Memory} {r q : Answer} {m n : Memory}
    → Leaves b o before r m → Leaves b o before q n → (r ≡ q) × (m ≡ n)
leaves_settles l k = (settles l.answers k.answers, settles l.memories k.memories)

-- and what the definition gives and leaves is allowed
pub leaves_met : (b : Gdp) (o : Outcome) (before : Memory)
    → Leaves b o before (answer_of b o.answer) (cond (named b) o.memory before)
leaves_met b o before = record { answers = refl; memories = refl }

-- so with a call that is lent a picture
picture_settles : {b : Gdp} {o : Outcome} {before : Memory} {r q : Answer} {m n : Memory}
    → Leaves b o before r m → Leaves b o before q n → (r ≡ q) × (m.picture ≡ n.picture)
picture_settles l k =
    let (answers, memories) = leaves_settles l k in
    (answers, ap (λ (m : Memory). m.picture) memories)

-- each call, by name: two results that its statement allows are equal
pub fresh_settled : (f : ℕ) {r q : Answer} → r ≡ fresh_answer f → q ≡ fresh_answer f → r ≡ q
fresh_settled f = settles

pub write_settled : (b : Gdp) (a v : ℕ) {r q : Answer}
    → r ≡ answer_of b (written (state_of b) a v) → q ≡ answer_of b (written (state_of b) a v) → r ≡ q
write_settled b a v = settles

pub read_settled : (b : Gdp) (a : ℕ) {r q : Answer}
    → r ≡ answer_of b (read_out (state_of b) a) → q ≡ answer_of b (read_out (state_of b) a) → r ≡ q
read_settled b a = settles

pub grant_settled : (b : Gdp) (n : ℕ) (picture table : List ℕ) {r q : Answer} {p o : List ℕ}
    → Grants b n picture table r p → Grants b n picture table q o → (r ≡ q) × (p ≡ o)
grant_settled b n picture table = picture_settles

pub vb_settled : (b : Gdp) (level : Bool) (picture : List ℕ) {r q : Answer} {p o : List ℕ}
    → Blanks b level picture r p → Blanks b level picture q o → (r ≡ q) × (p ≡ o)
vb_settled b level picture = picture_settles

pub edge_settled : (b : Gdp) (h v : ℕ) {r q : Answer}
    → r ≡ answer_of b (struck (state_of b) h v) → q ≡ answer_of b (struck (state_of b) h v) → r ≡ q
edge_settled b h v = settles

pub address_settled : (b : Gdp) {r q : Outputs}
    → r ≡ outputs_of b (located (state_of b)) → q ≡ outputs_of b (located (state_of b)) → r ≡ q
address_settled b = settles

-- the processor's own calls give a value and a state or a refusal, and of that what C has settles it too
pub answers_apart : (b : Gdp) (r q : Result Reply Refusal) → as_answer b r ≡ as_answer b q → r ≡ q
answers_apart b (Ok r) (Ok q) e =
    let same : ◌≡◌ {A = Reply} r q = ap (λ (a : Answer). record { value = a.value; state = a.state }) e in
    ap Ok same
answers_apart b (Ok r) (Err why) e = absurd (number_some why (sym (ap (λ (a : Answer). a.number) e)))
answers_apart b (Err why) (Ok q) e = absurd (number_some why (ap (λ (a : Answer). a.number) e))
answers_apart b (Err why) (Err other) e = ap Err (number_apart (ap (λ (a : Answer). a.number) e))

pub outputs_apart : (r q : Result Address Refusal) → as_outputs r ≡ as_outputs q → r ≡ q
outputs_apart (Ok r) (Ok q) e =
    let same : ◌≡◌ {A = Address} r q = ap (λ (o : Outputs). record { low = o.low; high = o.high; msl = o.msl }) e in
    ap Ok same
outputs_apart (Ok r) (Err why) e = absurd (number_some why (sym (ap (λ (o : Outputs). o.number) e)))
outputs_apart (Err why) (Ok q) e = absurd (number_some why (ap (λ (o : Outputs). o.number) e))
outputs_apart (Err why) (Err other) e = ap Err (number_apart (ap (λ (o : Outputs). o.number) e))
