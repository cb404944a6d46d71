-- Where nothing runs, calls that write no register leave it so, and every dot.
-- Assumes nothing.
use mathlib.Core.Path.{◌≡◌, refl, ap, ◌∙◌, subst}
use mathlib.Core.Bool.{Bool, true, ◌&&◌, not, false≢true}
use mathlib.Core.List.{List, [], ◌∷◌}
use Prim.Native.Nat.{ℕ, ◌-◌}
use native.Mathlib.Omega.{arith}
use lib.Dec.{eqb}
use Rattle.basis.proofs.Cases.{cond_case}
use Rattle.picture.specs.Bit.{digit}
use Rattle.rules.specs.Sequence.{Idle, work_falls, work_rises}
use Rattle.rules.specs.State.{State, with_work, vb_raises}
use Rattle.rules.specs.Blanking.{fallen, clear_ends, risen, after_vb}
use Rattle.rules.specs.Refusals.{vb_number}
use Rattle.rules.specs.Calls.{answer, outcome, blanked}
use Rattle.rules.specs.Card.{Card, Event, W, R, T, VB, LP, outcome_of, next, played}
use Rattle.rules.specs.Frames.{unwritten}
use Rattle.rules.proofs.Split.{idle_still}
use Rattle.rules.proofs.Alike.{Alike, same, read_alike, edge_alike, grant_alike, grant_memory, pen_alike}
use Rattle.rules.proofs.NoClear.{clears, none_ends, vb_memory}

-- calls that write no register leave it so, and the picture as it is
pub record Rests (c d : Card) : Type 0 where
  pub work : d.state.work ≡ Idle
  pub memory : d.memory ≡ c.memory
  pub flag : d.state.flags.ready ≡ true → c.state.flags.ready ≡ true

rests : {c d : Card} → c.state.work ≡ Idle → Alike c.state d.state → d.memory ≡ c.memory → Rests c d
rests i a m = record { work = a.work ∙ i; memory = m; flag = a.flag }

record Idles (s t : State) : Type 0 where
  pub work : t.work ≡ Idle
  pub flag : t.flags.ready ≡ true → s.flags.ready ≡ true

idle_levels : (s : State) (level : Bool) → s.work ≡ Idle → Idles s (after_vb s level)
unfolding after_vb fallen risen vb_raises clear_ends
idle_levels s level i =
    let up = pen_alike (with_work (work_rises s.work) s) in
    cond_case (Idles s) s.vb
    (λ _. cond_case (Idles s) level (λ _. record { work = i; flag = λ x. x }) λ _. record { work = ap work_falls i; flag = λ x. x })
    (λ _. cond_case (Idles s) level (λ _. rw (none_ends s (ap clears i)) (record { work = up.work ∙ ap work_rises i; flag = up.flag })) λ _. record { work = i; flag = λ x. x })

idle_vb : (c : Card) (level : Bool) → c.state.work ≡ Idle → Rests c (next c (VB level))
unfolding next outcome_of blanked outcome answer
idle_vb c level i =
    let s = c.state in
    let taken = eqb (vb_number s c.memory.picture) 0 in
    let h = cond_case (Idles s) taken (λ _. idle_levels s level i) λ _. record { work = i; flag = λ x. x } in
    record {
      work = h.work;
      memory = vb_memory s (ap clears i) level c.memory;
      flag = h.flag;
    }

rests_on : {c d e : Card} → Rests c d → Rests d e → Rests c e
rests_on r q = record { work = q.work; memory = q.memory ∙ r.memory; flag = λ x. r.flag (q.flag x) }

pub idle_comes : (es : List Event) (c : Card) (vb : Bool) → c.state.work ≡ Idle → unwritten 0 vb es ≡ true → Rests c (played c es)
unfolding played unwritten next outcome_of
idle_comes [] c vb i u = rests i same refl
idle_comes (W a v ∷ es) c vb i u = absurd (false≢true u)
idle_comes (R a ∷ es) c vb i u =
    let r = rests i (read_alike c.state a) refl in
    rests_on r (idle_comes es (next c (R a)) vb r.work u)
idle_comes (T n ∷ es) c vb i u =
    let still = idle_still c.state i in
    let r = rests i (grant_alike c.state n c.memory c.tables still) (grant_memory c.state n c.memory c.tables still) in
    rests_on r (idle_comes es (next c (T n)) vb r.work u)
idle_comes (VB level ∷ es) c vb i u =
    let r = idle_vb c level i in
    let none : 0 - digit (not vb && level) ≡ 0 = omega arith in
    rests_on r (idle_comes es (next c (VB level)) level r.work (subst (λ (n : ℕ). unwritten n level es ≡ true) none u))
idle_comes (LP h v ∷ es) c vb i u =
    let r = rests i (edge_alike c.state h v) refl in
    rests_on r (idle_comes es (next c (LP h v)) vb r.work u)
