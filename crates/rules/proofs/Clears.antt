-- When a clear ends, for any calls that come after it is accepted: with the VB rise that ends the last frame of its format, whatever
-- their number, and no sooner. Reads, grants, pen edges and refused writes in between change nothing of it; only what is written
-- after that rise may begin something else.
-- Assumes nothing.
use mathlib.Core.Path.{◌≡◌, refl, sym, ap, ◌∙◌, subst}
use mathlib.Core.Logic.{◌⊎◌, inl, inr, ⊎_elim}
use mathlib.Core.Bool.{Bool, true, false, ◌&&◌, ◌||◌, not}
use mathlib.Core.List.{List, [], ◌∷◌}
use Prim.Native.Nat.{ℕ, ◌+◌, ◌-◌, ◌≤◌}
use native.Mathlib.Omega.{arith}
use lib.Dec.{eqb, leb}
use lib.ListN.{length}
use borrow.Author.Tests.{eqb-true, leb-true, leb-false, le-leb, lt-leb}
use Rattle.basis.proofs.Cases.{split, or_cases, and_parts}
use Rattle.picture.specs.Bit.{digit}
use Rattle.parts.specs.Format.{bytes, frames}
use Rattle.parts.specs.Command.{kind, prompting}
use Rattle.parts.proofs.Laws.{frames_some}
use Rattle.rules.specs.Sequence.{Clear, ready, no_frames}
use Rattle.rules.specs.State.{State}
use Rattle.rules.specs.Commands.{clearing, prompt, begun, after_write}
use Rattle.rules.specs.Blanking.{ends_clear}
use Rattle.rules.specs.Refusals.{bad, write_number}
use Rattle.rules.specs.Calls.{Memory, answer, written}
use Rattle.rules.specs.Card.{Card, Event, W, R, T, VB, LP, outcome_of, next, played}
use Rattle.rules.specs.Frames.{levels_in, rises_in, frames_after, rises_of, unwritten, Come}
use Rattle.rules.proofs.Good.{begun_good}
use Rattle.rules.proofs.Alike.{wrote}
use Rattle.rules.proofs.Resting.{idle_comes}
use Rattle.rules.proofs.ClearSteps.{Runs, Goes, before, counted, present, falls_to, rises_to, ends_to, read_turns, grant_turns, edge_turns}

-- what comes of the clear on a card that it goes on to, its frames counted from there
turned : {c d e : Card} {n m : ℕ} → Goes c d → m ≡ n → Come d e m → Come c e n
turned {c} {e = e} g k h = subst (Come c e) k (before g h)

same_card : {c d : Card} (es : List Event) {n m : ℕ} → d ≡ c → m ≡ n → Come c (played c es) m → Come c (played d es) n
same_card {c} es {n} e k h = subst (λ (d : Card). Come c (played d es) n) (sym e) (subst (Come c (played c es)) k h)

-- how a level counts: not, as the end of a frame that had begun before, as the end of one that counts
no_rise : (o r k : ℕ) → o + (r - k) ≡ o + (0 + r - k)
no_rise o r k = omega arith

early_rise : (o r : ℕ) → o + (r - 0) ≡ o + (1 + r - 1)
early_rise o r = omega arith

frame_over : (o r : ℕ) → o + 1 + (r - 0) ≡ o + (1 + r - 0)
frame_over o r = omega arith

none_over : (c : Card) {fill inside : Bool} {over : ℕ} (k : ℕ) → Runs c fill inside over → leb (frames c.state.format) (over + (0 - k)) ≡ false
none_over c {over = over} k r = lt-leb (frames c.state.format) (over + (0 - k)) (omega (arith, r.left))

-- the rise that ends the last frame: the picture is whole, and nothing that writes no register changes it
ended : (es : List Event) (c : Card) {fill : Bool} {over n : ℕ} (r : Runs c fill true over) → c.state.vb ≡ false
    → leb (frames c.state.format) (over + 1) ≡ true → leb (frames c.state.format) n ≡ true → unwritten 0 true es ≡ true
    → Come c (played (next c (VB true)) es) n
ended es c r v e m u =
    let last : ends_clear c.state ≡ true = rw r.work e in
    let at = ends_to c r v last in
    let on = idle_comes es (next c (VB true)) true at.0.work u in
    record {
      ready = ap ready on.work ∙ sym m;
      picture = ap (λ (x : Memory). x.picture) on.memory ∙ at.1 ∙ rw m refl;
      flag = λ x. rw m (at.0.flag (on.flag x));
    }

-- the rises that the clear still waits for
abbrev awaited : Card → Bool → ℕ → Bool → ℕ
awaited c inside over vb = frames c.state.format - over + digit (not vb && not inside)

-- on a card that it goes on to, by a call that is no VB level
still_awaited : {c d : Card} (inside : Bool) (over : ℕ) (vb : Bool) {m : ℕ} → Goes c d → m ≡ awaited c inside over vb → m ≡ awaited d inside over vb
still_awaited inside over vb g k = rw g.format k

comes : (es : List Event) (c : Card) {fill : Bool} (inside : Bool) {over : ℕ} (vb : Bool) → Runs c fill inside over → c.state.vb ≡ vb
    → (m : ℕ) → m ≡ awaited c inside over vb → unwritten m vb es ≡ true → Come c (played c es) (counted inside over vb (levels_in es))
unfolding played unwritten levels_in rises_in
comes [] c inside vb r v m k u =
    let no = none_over c (digit (not vb && not inside)) r in
    record { ready = ap ready r.work ∙ sym no; picture = rw no refl; flag = λ x. rw x refl }
comes (W a v ∷ es) c inside vb r e m k u =
    same_card es (wrote c a v (ap ready r.work)) refl (comes es c inside vb r e m k (and_parts (not (eqb m 0)) _ u).1)
comes (R a ∷ es) c inside {over} vb r v m k u =
    let t = read_turns c r v a in
    turned t.goes refl (comes es (next c (R a)) inside vb t.runs t.level m (still_awaited inside over vb t.goes k) u)
comes (T n ∷ es) c inside {over} vb r v m k u =
    let t = grant_turns c r v n in
    turned t.goes refl (comes es (next c (T n)) inside vb t.runs t.level m (still_awaited inside over vb t.goes k) u)
comes (LP x y ∷ es) c inside {over} vb r v m k u =
    let t = edge_turns c r v x y in
    turned t.goes refl (comes es (next c (LP x y)) inside vb t.runs t.level m (still_awaited inside over vb t.goes k) u)
comes (VB true ∷ es) c inside true r v m k u =
    same_card es (present c true r v) (no_rise _ _ 0) (comes es c inside true r v (m - 0) (omega (arith, k)) u)
comes (VB false ∷ es) c inside true r v m k u =
    let t = falls_to c r v in
    turned t.goes (no_rise _ _ 0)
    (comes es (next c (VB false)) true false t.runs t.level (m - 0) (omega (arith, k, ap frames t.goes.format)) u)
comes (VB false ∷ es) c inside false r v m k u =
    same_card es (present c false r v) (no_rise _ _ _) (comes es c inside false r v (m - 0) (omega (arith, k)) u)
comes (VB true ∷ es) c false false r v m k u =
    let t = rises_to c r v (rw r.work refl) r.left in
    turned t.goes (early_rise _ _)
    (comes es (next c (VB true)) false true t.runs t.level (m - 1) (omega (arith, k, ap frames t.goes.format)) u)
comes (VB true ∷ es) c true {over} false r v m k u =
    ⊎_elim
    (λ e. ended es c r v e (le-leb (frames c.state.format) _ (past e)) (subst (λ (n : ℕ). unwritten n true es ≡ true) (last e) u))
    (λ e. let t = rises_to c r v (rw r.work e) (leb-false _ _ e) in
    turned t.goes (frame_over _ _)
    (comes es (next c (VB true)) false true t.runs t.level (m - 1) (omega (arith, k, ap frames t.goes.format, leb-false (frames c.state.format) (over + 1) e)) u))
    (split (leb (frames c.state.format) (over + 1)))
  where
    past : leb (frames c.state.format) (over + 1) ≡ true → frames c.state.format ≤ counted true over false (true ∷ levels_in es)
    past e = omega (arith, leb-true (frames c.state.format) (over + 1) e)

    last : leb (frames c.state.format) (over + 1) ≡ true → m - 1 ≡ 0
    last e = omega (arith, k, leb-true (frames c.state.format) (over + 1) e)

-- from acceptance on, whatever is called, but for what is written after the end: the frames are those that VB's levels show
pub clear_comes : (c : Card) (fill : Bool) → bad c.state ≡ false → length c.memory.picture ≡ bytes c.state.format
    → c.state.work ≡ Clear fill no_frames → (es : List Event) → unwritten (rises_of c.state) c.state.vb es ≡ true
    → Come c (played c es) (frames_after c.state.vb (levels_in es))
unfolding frames_after
clear_comes c fill g l w es u =
    let r : Runs c fill false 0 = record { good = g; fits = l; work = w; left = frames_some c.state.format } in
    subst (Come c (played c es)) (begins c.state.vb (rises_in c.state.vb (levels_in es)))
    (comes es c false c.state.vb r refl (rises_of c.state) (awaits c.state.vb (frames c.state.format)) u)
  where
    begins : (vb : Bool) (n : ℕ) → 0 + (n - digit (not vb && true)) ≡ n - digit (not vb)
    begins true n = omega arith
    begins false n = omega arith

    awaits : (vb : Bool) (k : ℕ) → k + digit (not vb) ≡ k - 0 + digit (not vb && true)
    awaits true k = omega arith
    awaits false k = omega arith

-- 04, 06, 07 and 0C once accepted: no frame is open or over
prompts : (c : ℕ) → clearing c ≡ true → prompting (kind c) ≡ true
unfolding clearing kind
prompts c e = from (or_cases _ _ e)
  where
    named : (n : ℕ) → prompting (kind n) ≡ true → eqb c n ≡ true → prompting (kind c) ≡ true
    named n p t = rw (eqb-true c n t) p

    first : (eqb c 0x04 ≡ true) ⊎ (eqb c 0x06 ≡ true) → prompting (kind c) ≡ true
    first (inl t) = named 0x04 refl t
    first (inr t) = named 0x06 refl t

    second : ((eqb c 0x04 || eqb c 0x06) ≡ true) ⊎ (eqb c 0x07 ≡ true) → prompting (kind c) ≡ true
    second (inl t) = first (or_cases _ _ t)
    second (inr t) = named 0x07 refl t

    from : ((eqb c 0x04 || eqb c 0x06 || eqb c 0x07) ≡ true) ⊎ (eqb c 0x0C ≡ true) → prompting (kind c) ≡ true
    from (inl t) = second (or_cases _ _ t)
    from (inr t) = named 0x0C refl t

accepted_next : (c : Card) (code : ℕ) → write_number c.state 0x0 ≡ 0
    → next c (W 0x0 code) ≡ record { state = begun c.state code; memory = c.memory; tables = c.tables }
unfolding next outcome_of written answer after_write
accepted_next c code z = rw z refl

begun_clear : (s : State) (code : ℕ) → clearing code ≡ true
    → ((begun s code).work ≡ Clear (eqb code 0x0C) no_frames) × ((begun s code).format ≡ s.format) × ((begun s code).vb ≡ s.vb)
unfolding begun prompt
begun_clear s code e = rw (prompts code e, e) (refl, refl, refl)

-- so from acceptance on, for any card and any of the four
pub clears_come : (c : Card) (code : ℕ) → clearing code ≡ true → write_number c.state 0x0 ≡ 0
    → length c.memory.picture ≡ bytes c.state.format → (es : List Event) → unwritten (rises_of c.state) c.state.vb es ≡ true
    → Come (next c (W 0x0 code)) (played c (W 0x0 code ∷ es)) (frames_after c.state.vb (levels_in es))
unfolding played begun
clears_come c code e z l es u =
    let b = begun_clear c.state code e in
    let d : Card = record { state = begun c.state code; memory = c.memory; tables = c.tables } in
    let h = clear_comes d (eqb code 0x0C) (begun_good c.state code z) (rw b.1 l) b.0 es (rw (b.1, b.2) u) in
    rw (accepted_next c code z) (rw b.2 at h)
