-- The answers in the order of the refusals: bytes that name nothing are the first refusal's business.
-- Assumes nothing.
use mathlib.Core.Path.{◌≡◌, refl, ◌∙◌}
use Prim.Native.Nat.{ℕ}
use mathlib.Core.Bool.{Bool, true, false, cond, not, ◌||◌}
use mathlib.Core.List.{List, [], ◌∷◌}
use lib.Dec.{eqb}
use Rattle.std.proofs.Common.{Result, Err}
use lib.ListN.{length}
use native.Mathlib.Omega.{arith}
use borrow.Author.Tests.{ne_eqb}
use Rattle.picture.specs.Dot.{paint}
use Rattle.parts.specs.Address.{address_of}
use Rattle.parts.specs.declared.refusal.Refusal.{Refusal}
use Rattle.parts.specs.Refusal.{Cases, lowest, refusal_number}
use Rattle.parts.proofs.Laws.{number_some}
use Rattle.rules.specs.State.{State}
use Rattle.rules.specs.Registers.{register_at, after_read}
use Rattle.rules.specs.Figure.{tables}
use Rattle.rules.specs.Cycles.{lights, used, dots, after}
use Rattle.rules.specs.Commands.{after_write}
use Rattle.rules.specs.Blanking.{after_vb, picture_vb, after_edge}
use Rattle.rules.specs.Refusals.{bad, wrong_picture, wrong_table, no_register, read_only, busy, off_screen, write_number, read_number, grant_number, vb_number, edge_number, address_number}
use Rattle.rules.specs.Calls.{answer, Memory, memory, Outcome, outcome, written, read_out, granted, blanked, struck, no_outputs, located}
use Rattle.gdp.specs.declared.state.Gdp.{Gdp}
use Rattle.gdp.specs.declared.state.Reply.{Reply}
use Rattle.gdp.specs.declared.state.Answer.{Answer}
use Rattle.gdp.specs.declared.address.Outputs.{Outputs}
use Rattle.gdp.specs.Flat.{flat, named, format_of, state_of}
use Rattle.gdp.specs.Calls.{flawed, refusal, as_answer, answer_of, Leaves, Grants, Blanks, outputs_of}
use Rattle.gdp.specs.Working.Steps.{memory_number}

-- bytes that pass the first test of each call are not refused with 1
pub passed : (b : Gdp) → 0 ≡ lowest ((1, flawed b) ∷ []) → flawed b ≡ false
unfolding lowest
passed b = from (flawed b)
  where
    from : (f : Bool) → ◌≡◌ {A = ℕ} 0 (cond f 1 0) → f ≡ false
    from true h = absurd (omega arith)
    from false h = refl

-- what a call does by the definition's number, and with 1 where the bytes name nothing, it does by the number over refusal 1 whole
pub number_told : {A : Type 0} (k : ℕ → A) (b : Gdp) (cs : Cases)
    → cond (named b) (k (lowest ((1, bad (state_of b)) ∷ cs))) (k 1) ≡ k (lowest ((1, flawed b) ∷ cs))
unfolding lowest flawed
number_told k b cs = from (named b)
  where
    from : (n : Bool) → cond n (k (cond (bad (state_of b)) 1 (lowest cs))) (k 1) ≡ k (cond (not n || bad (state_of b)) 1 (lowest cs))
    from true = refl
    from false = refl

-- number n and value v: 0 with the bytes of a state, any other with value 0 and the bytes handed in
abbrev pub told : Gdp → ℕ → ℕ → State → Answer
told b n v s = record { number = n; value = cond (eqb n 0) v (refusal n b).value; state = cond (eqb n 0) (flat s) b }

-- the definition chooses by the number first
once : (z : Bool) (b : Gdp) (s next : State) → cond z (flat (cond z next s)) b ≡ cond z (flat next) b
once true b s next = refl
once false b s next = refl

-- the definition's answer to a call with any cases, by the lowest number over refusal 1 whole and those cases
pub answer_told : (b : Gdp) (cs : Cases) (v : ℕ) (next : State)
    → answer_of b (answer (lowest ((1, bad (state_of b)) ∷ cs)) v next (state_of b)) ≡ told b (lowest ((1, flawed b) ∷ cs)) v next
unfolding answer_of answer
answer_told b cs v next =
    number_told (λ n. told_twice n) b cs ∙ rw (once (eqb (lowest ((1, flawed b) ∷ cs)) 0) b (state_of b) next)
  where
    told_twice : ℕ → Answer
    told_twice n = record { number = n; value = cond (eqb n 0) v (refusal n b).value; state = cond (eqb n 0) (flat (cond (eqb n 0) next (state_of b))) b }

-- so with each call that is lent nothing
pub write_told : (b : Gdp) (a v : ℕ) → answer_of b (written (state_of b) a v)
    ≡ told b (lowest ((1, flawed b) ∷ (4, no_register a) ∷ (5, read_only a) ∷ (6, busy (state_of b)) ∷ []))
    0 (after_write (state_of b) a v)
unfolding written write_number
write_told b a v = answer_told b _ 0 (after_write (state_of b) a v)

pub read_told : (b : Gdp) (a : ℕ) → answer_of b (read_out (state_of b) a)
    ≡ told b (lowest ((1, flawed b) ∷ (4, no_register a) ∷ [])) (register_at (state_of b) a) (after_read (state_of b) a)
unfolding read_out read_number
read_told b a = answer_told b _ (register_at (state_of b) a) (after_read (state_of b) a)

pub edge_told : (b : Gdp) (h v : ℕ) → answer_of b (struck (state_of b) h v)
    ≡ told b (lowest ((1, flawed b) ∷ (8, off_screen h v) ∷ [])) 0 (after_edge (state_of b) h v)
unfolding struck edge_number
edge_told b h v = answer_told b _ 0 (after_edge (state_of b) h v)

-- the address outputs, likewise
abbrev pub told_outputs : Gdp → ℕ → Outputs
told_outputs b n =
    let a = cond (eqb n 0) (address_of (format_of b) b.x b.y) no_outputs in
    record { number = n; low = a.low; high = a.high; msl = a.msl }

pub address_told : (b : Gdp) → outputs_of b (located (state_of b)) ≡ told_outputs b (lowest ((1, flawed b) ∷ []))
unfolding outputs_of located address_number no_outputs state_of
address_told b = number_told (told_outputs b) b []

-- a call that is lent memories: refused it leaves them too
module _ (b : Gdp) (cs : Cases) (v : ℕ) (next : State) (changed m : Memory) where
  abbrev called : Outcome
  called = outcome (lowest ((1, bad (state_of b)) ∷ cs)) v next changed (state_of b) m

  memory_told : cond (named b) called.memory m ≡ cond (eqb (lowest ((1, flawed b) ∷ cs)) 0) changed m
  unfolding outcome
  memory_told = number_told (λ n. cond (eqb n 0) changed m) b cs

  outcome_told : answer_of b called.answer ≡ told b (lowest ((1, flawed b) ∷ cs)) v next
  unfolding outcome
  outcome_told = answer_told b cs v next

  pub leaves_refused : {r : Result Reply Refusal} (why : Refusal) → r ≡ Err why → refusal_number why ≡ lowest ((1, flawed b) ∷ cs)
      → Leaves b called m (as_answer b r) m
  leaves_refused why e n =
      let z = ne_eqb (refusal_number why) 0 (number_some why) in
      rw e (record { answers = rw (outcome_told, ← n, z) refl; memories = rw (memory_told, ← n, z) refl })

  pub leaves_accepted : lowest ((1, flawed b) ∷ cs) ≡ 0 → {r : Answer} {left : Memory}
      → r ≡ record { number = 0; value = v; state = flat next } → left ≡ changed → Leaves b called m r left
  leaves_accepted e h k = record { answers = rw (outcome_told, e) h; memories = rw (memory_told, e) k }

-- a grant
module _ (b : Gdp) (n : ℕ) (picture table : List ℕ) where
  abbrev grant_cases : Cases
  grant_cases = (2, wrong_picture (state_of b) picture) ∷ (3, wrong_table (tables table)) ∷ []

  abbrev pub grant_code : ℕ
  grant_code = lowest ((1, flawed b) ∷ grant_cases)

  abbrev grant_left : Memory
  grant_left = memory (paint (lights (state_of b).regs) (dots (state_of b) (tables table) n) picture)

  pub grant_refused : {r : Result Reply Refusal} (why : Refusal) → r ≡ Err why → refusal_number why ≡ grant_code
      → Grants b n picture table (as_answer b r) picture
  unfolding granted grant_number
  grant_refused why e h = leaves_refused b grant_cases (used (state_of b) n) (after (state_of b) n) grant_left (memory picture) why e h

  pub grant_accepted : grant_code ≡ 0 → {r : Answer} {p : List ℕ}
      → r ≡ record { number = 0; value = used (state_of b) n; state = flat (after (state_of b) n) }
      → p ≡ paint (lights (state_of b).regs) (dots (state_of b) (tables table) n) picture → Grants b n picture table r p
  unfolding granted grant_number
  grant_accepted e h k =
      leaves_accepted b grant_cases (used (state_of b) n) (after (state_of b) n) grant_left (memory picture) e h (rw k refl)

  -- one that is not refused with 1 is refused by its memories only
  pub grant_memories : flawed b ≡ false → grant_code ≡ memory_number b (length picture) (length table)
  unfolding lowest wrong_picture wrong_table state_of
  grant_memories e = rw e refl

-- a VB call
abbrev vb_cases : Gdp → List ℕ → Cases
vb_cases b picture = (2, wrong_picture (state_of b) picture) ∷ []

abbrev pub vb_code : Gdp → List ℕ → ℕ
vb_code b picture = lowest ((1, flawed b) ∷ vb_cases b picture)

module _ (b : Gdp) (level : Bool) (picture : List ℕ) where
  abbrev vb_left : Memory
  vb_left = memory (picture_vb (state_of b) level picture)

  pub vb_refused : {r : Result Reply Refusal} (why : Refusal) → r ≡ Err why → refusal_number why ≡ vb_code b picture
      → Blanks b level picture (as_answer b r) picture
  unfolding blanked vb_number
  vb_refused why e h = leaves_refused b (vb_cases b picture) 0 (after_vb (state_of b) level) vb_left (memory picture) why e h

  pub vb_accepted : vb_code b picture ≡ 0 → {r : Answer} {p : List ℕ}
      → r ≡ record { number = 0; value = 0; state = flat (after_vb (state_of b) level) }
      → p ≡ picture_vb (state_of b) level picture → Blanks b level picture r p
  unfolding blanked vb_number
  vb_accepted e h k =
      leaves_accepted b (vb_cases b picture) 0 (after_vb (state_of b) level) vb_left (memory picture) e h (rw k refl)
