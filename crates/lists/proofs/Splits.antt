-- However a command's cycles are split into grants, they leave what one grant of their sum leaves; and a grant of more
-- than what is left leaves what one of just that leaves.
-- Assumes nothing.
use mathlib.Core.Path.{◌≡◌, refl, sym, ap, ◌∙◌, subst}
use mathlib.Core.Bool.{Bool, false}
use mathlib.Core.List.{List, [], ◌∷◌, ◌++◌, map, append-nil}
use Prim.Native.Nat.{ℕ, ◌+◌, ◌-◌, ◌≤◌}
use native.Mathlib.Nat.{add-zero}
use native.Mathlib.Omega.{arith}
use lib.ListN.{length}
use borrow.Author.Tests.{eq-eqb, le-ltb}
use Rattle.picture.specs.Dot.{paint}
use Rattle.parts.specs.Format.{bytes}
use Rattle.parts.specs.Refusal.{lowest}
use Rattle.rules.specs.Sequence.{Work, Idle, Steps, Clear}
use Rattle.rules.specs.State.{State, ready_raises}
use Rattle.rules.specs.Figure.{Tables, cycles}
use Rattle.rules.specs.Cycles.{lights, left, used, dots, after}
use Rattle.rules.specs.Refusals.{bad, wrong_picture, wrong_table, grant_number}
use Rattle.rules.specs.Calls.{memory, Outcome}
use Rattle.rules.specs.Card.{Card, T, outcome_of, next, played}
use Rattle.rules.specs.Working.Good.{GoodWork}
use Rattle.rules.proofs.Laws.{good_from, Still, idle_still, clear_still, after_steps, left_steps, joined, grants_join, grant_taken}

-- card c in state s, some dots of its picture lit or darkened
abbrev pub with_dots : State → Bool → List ℕ → Card → Card
with_dots s lit ds c = record { state = s; memory = memory (paint lit ds c.memory.picture); tables = c.tables }

-- all the cycles of some grants
unfoldable pub total : List ℕ → ℕ
total [] = 0
total (n ∷ ns) = n + total ns

-- grants one after the other leave what one grant of their sum leaves: for every card
two_grants : (c : Card) (j k : ℕ) → next (next c (T j)) (T k) ≡ next c (T (j + k))
unfolding next outcome_of
two_grants c j k =
    let join = grants_join c.state j k c.memory c.tables in
    λ i. record { state = join.state i; memory = join.memory i; tables = c.tables }

pub one_grant : (c : Card) (n : ℕ) (ns : List ℕ) → played c (map T (n ∷ ns)) ≡ next c (T (total (n ∷ ns)))
unfolding played total
one_grant c n [] = rw (add-zero n)
one_grant c n (m ∷ ns) = one_grant (next c (T n)) m ns ∙ two_grants c n (m + total ns)

-- with the cycles left a command is over, and cycles change nothing more
pub ended : (s : State) (c p : ℕ) → s.work ≡ Steps c p → (after s (left s)).work ≡ Idle
unfolding ready_raises
ended s c p e =
    let l = left_steps s c p e in
    rw (after_steps s c p (left s) e, le-ltb (p + left s) (cycles s.regs c) (omega arith))

still_over : {s : State} → Still s → Still (after s (left s))
still_over {s} h = subst Still (sym (h.stays (left s))) h

over : (s : State) (w : Work) → s.work ≡ w → Still (after s (left s))
over s Idle e = still_over (idle_still s e)
over s (Steps c p) e = idle_still (after s (left s)) (ended s c p e)
over s (Clear f o) e = still_over (clear_still s f o e)

-- so more cycles than are left leave what those left leave
enough : (s : State) (t : Tables) (n : ℕ) → left s ≤ n → (after s n ≡ after s (left s)) × (dots s t n ≡ dots s t (left s))
enough s t n h =
    let k = n - left s in
    let all : left s + k ≡ n = omega arith in
    let still = over s s.work refl in
    let both = joined s t (left s) k in (
      ap (after s) (sym all) ∙ sym both.state ∙ still.stays k,
      ap (dots s t) (sym all) ∙ both.written ∙ ap (λ (ds : List ℕ). dots s t (left s) ++ ds) (still.blank t k) ∙ append-nil _,
    )

-- however many cycles a command has used, those left lead to the same end
pub onward : (s : State) (t : Tables) (n : ℕ)
    → (after (after s n) (left (after s n)) ≡ after s (left s))
    × (dots s t n ++ dots (after s n) t (left (after s n)) ≡ dots s t (left s))
unfolding used
onward s t n =
    let k = left (after s n) in
    let both = joined s t n k in
    let all : left s ≤ n + k = omega (arith, (joined s t n (left s)).value) in
    let same = enough s t (n + k) all in
    (both.state ∙ same.0, sym both.written ∙ same.1)

-- a good state with no cycle left is still
none_left : (s : State) (w : Work) → s.work ≡ w → GoodWork s.regs s.vb w → left s ≤ 0 → Still s
none_left s Idle e g h = idle_still s e
none_left s (Steps c p) e g h = absurd (omega (arith, left_steps s c p e, g))
none_left s (Clear f o) e g h = clear_still s f o e

-- a state that no call refuses with 1 is granted cycles, with memories of the right lengths
pub accepted : (s : State) (p : List ℕ) (t : Tables) → bad s ≡ false → length p ≡ bytes s.format → length t.characters ≡ 480
    → grant_number s p t ≡ 0
unfolding grant_number wrong_picture wrong_table lowest
accepted s p t g lp lt = rw (g, eq-eqb (length p) (bytes s.format) lp, eq-eqb (length t.characters) 480 lt)

-- a card whose command is run to its end
abbrev pub ran_out : Card → Card
ran_out c =
    let s = c.state in
    with_dots (after s (left s)) (lights s.regs) (dots s c.tables (left s)) c

-- however the cycles of a command are split into grants, together at least those left: the command is run to its end
pub split_free : (c : Card) (ns : List ℕ)
    → bad c.state ≡ false → length c.memory.picture ≡ bytes c.state.format → length c.tables.characters ≡ 480
    → left c.state ≤ total ns → played c (map T ns) ≡ ran_out c
unfolding played total next outcome_of
split_free c [] g lp lt h =
    let s = c.state in
    let still = none_left s s.work refl (good_from s g).work h in
    sym (λ i. with_dots (still.stays (left s) i) (lights s.regs) (still.blank c.tables (left s) i) c)
split_free c (n ∷ ns) g lp lt h =
    let s = c.state in
    let took = grant_taken s (n + total ns) c.memory c.tables (accepted s c.memory.picture c.tables g lp lt) in
    let same = enough s c.tables (n + total ns) h in
    one_grant c n ns
    ∙ ap (λ (o : Outcome). record { state = o.answer.state; memory = o.memory; tables = c.tables }) took
    ∙ (λ i. with_dots (same.0 i) (lights s.regs) (same.1 i) c)
