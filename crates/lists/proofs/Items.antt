-- One item at a time: which addresses and commands there are, what no item changes, and that a processor which is idle and
-- in a state that no call refuses with 1 is so again once the item's command is run to its end.
-- Assumes nothing.
use mathlib.Core.Path.{◌≡◌, refl, sym, ap, ◌∙◌, subst}
use mathlib.Core.Logic.{⊎_elim}
use mathlib.Core.Bool.{true, false, true≢false, false≢true}
use mathlib.Core.List.{List, [], ◌∷◌}
use Prim.Native.Nat.{ℕ, ◌+◌, ◌<◌}
use lib.Dec.{eqb, ltb}
use borrow.Author.Tests.{eqb-true, ltb-true}
use Rattle.basis.proofs.Cases.{cond_case, or_cases, passed}
use Rattle.picture.specs.Dot.{has}
use Rattle.parts.specs.declared.command.Kind.{Kind}
use Rattle.parts.specs.declared.command.Kind.TheVariants.{NoCycle, OneCycle, Vector, Character, Block}
use Rattle.parts.specs.Command.{kind, prompting}
use Rattle.rules.specs.Sequence.{Work, Idle, Steps, Clear}
use Rattle.rules.specs.State.{State, with_work, ready_raises}
use Rattle.rules.specs.Registers.{stored}
use Rattle.rules.specs.Figure.{cycles}
use Rattle.rules.specs.Cycles.{left, rested, after_of, after}
use Rattle.rules.specs.Commands.{commanded, clearing, prompt, begun, after_write}
use Rattle.rules.specs.Refusals.{bad, write_number}
use Rattle.rules.specs.Calls.{answer, written}
use Rattle.rules.proofs.Laws.{write_good, after_good, idle_still, clears}
use Rattle.lists.specs.Item.{settings, resets, is_drawn, Item, Set, Command, address, value}
use Rattle.lists.specs.Play.{taking, done}
use Rattle.lists.proofs.Splits.{ended}

-- what holds of each number of a list holds of a number in it
abbrev Each : (ℕ → Type 0) → List ℕ → Type 0
Each P [] = Unit {0}
Each P (n ∷ ns) = P n × Each P ns

one_of : (P : ℕ → Type 0) (ns : List ℕ) → Each P ns → (a : ℕ) → has a ns ≡ true → P a
one_of P [] h a e = absurd (false≢true e)
one_of P (n ∷ ns) h a e =
    ⊎_elim (λ e. subst P (sym (eqb-true a n e)) h.0) (one_of P ns h.1 a) (or_cases (eqb a n) (has a ns) e)

-- what is drawn takes write cycles, and begins with none used
drawn_runs : (k : Kind) → is_drawn k ≡ true → prompting k ≡ false
drawn_runs Vector d = refl
drawn_runs Character d = refl
drawn_runs Block d = refl
drawn_runs OneCycle d = refl
drawn_runs NoCycle d = absurd (false≢true d)

pub drawn_begun : (s : State) (c : ℕ) → is_drawn (kind c) ≡ true → begun s c ≡ with_work (Steps c 0) s
unfolding begun
drawn_begun s c d = rw (drawn_runs (kind c) d)

-- what holds of a write to each of the eight addresses, of the three resets and of whatever is drawn holds of an item
pub each : (P : ℕ → ℕ → Type 0)
    → ((v : ℕ) → P 0x2 v) → ((v : ℕ) → P 0x3 v) → ((v : ℕ) → P 0x5 v) → ((v : ℕ) → P 0x7 v)
    → ((v : ℕ) → P 0x8 v) → ((v : ℕ) → P 0x9 v) → ((v : ℕ) → P 0xA v) → ((v : ℕ) → P 0xB v)
    → P 0x0 0x05 → P 0x0 0x0D → P 0x0 0x0E → ((c : ℕ) → is_drawn (kind c) ≡ true → P 0x0 c)
    → (it : Item) → P (address it) (value it)
each P h2 h3 h5 h7 h8 h9 hA hB r5 rD rE draws (Set a v t b) =
    one_of (λ (a : ℕ). (v : ℕ) → P a v) settings (h2, (h3, (h5, (h7, (h8, (h9, (hA, (hB, tt)))))))) a (passed (has a settings) t) v
each P h2 h3 h5 h7 h8 h9 hA hB r5 rD rE draws (Command c l b) =
    ⊎_elim (one_of (P 0x0) resets (r5, (rD, (rE, tt))) c) (draws c) (or_cases (has c resets) (is_drawn (kind c)) (passed _ l))

-- state t has the format and CTRL1 of state s, and no clear runs, for no item begins one
pub record Kept (s t : State) : Type 0 where
  pub format : t.format ≡ s.format
  pub ctrl1 : t.regs.ctrl1 ≡ s.regs.ctrl1
  pub clear : clears t.work ≡ false

pub keeps : {s t : State} → t.format ≡ s.format → t.regs.ctrl1 ≡ s.regs.ctrl1 → clears t.work ≡ false → Kept s t
keeps f c w = record { format = f; ctrl1 = c; clear = w }

pub and_then : {s t u : State} → Kept s t → Kept t u → Kept s u
and_then k l = keeps (l.format ∙ k.format) (l.ctrl1 ∙ k.ctrl1) l.clear

-- so it is once an item is accepted
accepted_kept : (s : State) → clears s.work ≡ false → (it : Item) → Kept s (after_write s (address it) (value it))
unfolding after_write stored kind begun commanded prompt clearing ready_raises
accepted_kept s e =
    each (λ a v. Kept s (after_write s a v))
    (λ _. keeps refl refl e) (λ _. keeps refl refl e) (λ _. keeps refl refl e) (λ _. keeps refl refl e)
    (λ _. keeps refl refl e) (λ _. keeps refl refl e) (λ _. keeps refl refl e) (λ _. keeps refl refl e)
    (keeps refl refl e) (keeps refl refl e) (keeps refl refl e)
    (λ c d. subst (Kept s) (sym (drawn_begun s c d)) (keeps refl refl refl))

-- and once it is refused: that leaves the state as handed in
refused_or_kept : (s : State) (it : Item) → clears s.work ≡ false → Kept s (taking s it)
unfolding taking written answer
refused_or_kept s it e =
    cond_case (Kept s) (eqb (write_number s (address it)) 0) (λ _. accepted_kept s e it) (λ _. keeps refl refl e)

-- and so do the cycles of its command
after_work : (s : State) (n : ℕ) (w : Work) → clears s.work ≡ false → Kept s (after_of s n w)
unfolding after_of rested ready_raises
after_work s n Idle e = keeps refl refl e
after_work s n (Steps c p) e =
    cond_case (Kept s) (ltb (p + n) (cycles s.regs c)) (λ _. keeps refl refl refl) (λ _. keeps refl refl refl)
after_work s n (Clear f o) e = keeps refl refl e

pub after_kept : (s : State) (n : ℕ) → clears s.work ≡ false → Kept s (after s n)
unfolding after
after_kept s n = after_work s n s.work

-- unless it is a clear, what runs is over with the cycles left
pub runs_out : (s : State) (w : Work) → s.work ≡ w → clears w ≡ false → (after s (left s)).work ≡ Idle
runs_out s Idle e f = ap (λ (t : State). t.work) ((idle_still s e).stays (left s)) ∙ e
runs_out s (Steps c p) e f = ended s c p e
runs_out s (Clear g o) e f = absurd (true≢false f)

-- idle, in a state that no call refuses with 1
pub record Calm (s : State) : Type 0 where
  pub good : bad s ≡ false
  pub idle : s.work ≡ Idle

-- what an item writes is a byte
value_byte : (it : Item) → value it < 256
value_byte (Set a v t b) = ltb-true v 256 (passed (ltb v 256) b)
value_byte (Command c l b) = ltb-true c 256 (passed (ltb c 256) b)

-- an item written, and run to its end: the processor is calm again
module _ (s : State) (it : Item) (c : Calm s) where
  pub taking_kept : Kept s (taking s it)
  taking_kept = refused_or_kept s it (ap clears c.idle)

  pub taking_good : bad (taking s it) ≡ false
  unfolding taking
  taking_good = write_good s (address it) (value it) (value_byte it) c.good

  pub done_kept : Kept s (done s it)
  unfolding done
  done_kept = let w = taking s it in and_then taking_kept (after_kept w (left w) taking_kept.clear)

  pub done_calm : Calm (done s it)
  unfolding done
  done_calm =
      let w = taking s it in
      record { good = after_good w (left w) taking_good; idle = runs_out w w.work refl taking_kept.clear }
