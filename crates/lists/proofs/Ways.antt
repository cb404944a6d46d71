-- Any way of calls, refused or not: it keeps the format, the tables, bit 1 of XLP low, and VB low inside an open frame of the
-- pen; and without grants and clears it keeps the memory.
-- Assumes nothing.
use mathlib.Core.Path.{◌≡◌, refl, sym, ◌∙◌}
use mathlib.Core.Bool.{Bool, true, false, ◌&&◌, ◌||◌, not, and-false, false≢true, true≢false}
use mathlib.Core.List.{List, [], ◌∷◌}
use Prim.Native.Nat.{ℕ, ◌+◌, ◌*◌, ◌/◌, ◌%◌}
use native.Mathlib.Omega.{arith}
use lib.Dec.{eqb, ltb}
use borrow.Author.Tests.{ne_eqb, not-true}
use Rattle.basis.proofs.Cases.{cond_case, and_parts}
use Rattle.picture.specs.Bit.{bit_at}
use Rattle.picture.proofs.Laws.{bit_other}
use Rattle.parts.specs.Command.{kind, prompting}
use Rattle.rules.specs.Sequence.{Work, Idle, Steps, Clear, light_pen_open}
use Rattle.rules.specs.State.{Regs, State, with_vb, light_pen_raises, vb_raises, ready_raises}
use Rattle.rules.specs.Registers.{stored, light_pen_read, after_read}
use Rattle.rules.specs.Figure.{cycles}
use Rattle.rules.specs.Cycles.{rested, after_of, after}
use Rattle.rules.specs.Commands.{commanded, clearing, prompt, begun, after_write}
use Rattle.rules.specs.Blanking.{fallen, ends_clear, clear_ends, light_pen_ends, risen, after_vb, after_edge}
use Rattle.rules.specs.Refusals.{write_number}
use Rattle.rules.specs.Calls.{answer, outcome, written, read_out, granted, blanked, struck}
use Rattle.rules.specs.Card.{Card, Event, W, R, T, VB, LP, outcome_of, next, played}
use Rattle.rules.proofs.Laws.{clears, vb_memory}
use Rattle.lists.specs.Erase.{draws_none}
use Rattle.lists.proofs.Between.{aside_kept, read_aside, vb_aside, edge_aside}

-- the tables
pub way_tables : (c : Card) (es : List Event) → (played c es).tables ≡ c.tables
unfolding played next
way_tables c [] = refl
way_tables c (e ∷ es) = way_tables (next c e) es

-- what a way keeps from state s to state t
pub record Along (s t : State) : Type 0 where
  pub format : t.format ≡ s.format
  pub xlp : bit_at 1 s.regs.xlp ≡ false → bit_at 1 t.regs.xlp ≡ false
  pub light_pen : (s.vb && light_pen_open s.light_pen) ≡ false → (t.vb && light_pen_open t.light_pen) ≡ false

along : {s t : State} → t.format ≡ s.format → (bit_at 1 s.regs.xlp ≡ false → bit_at 1 t.regs.xlp ≡ false)
    → ((s.vb && light_pen_open s.light_pen) ≡ false → (t.vb && light_pen_open t.light_pen) ≡ false) → Along s t
along f x p = record { format = f; xlp = x; light_pen = p }

answer_along : (number value : ℕ) {t s : State} → Along s t → Along s (answer number value t s).state
unfolding answer
answer_along number value {s = s} a = cond_case (Along s) (eqb number 0) (λ _. a) (λ _. along refl (λ x. x) (λ p. p))

-- no write changes XLP, by a register or by a command
record Points (xlp : ℕ) (r : Regs) : Type 0 where
  at : r.xlp ≡ xlp

points : {n : ℕ} {r : Regs} → r.xlp ≡ n → Points n r
points e = record { at = e }

stored_points : (r : Regs) (a v : ℕ) → Points r.xlp (stored r a v)
unfolding stored
stored_points r a v =
    cond_case (Points r.xlp) (eqb a 0x1) (λ _. points refl) λ _.
    cond_case (Points r.xlp) (eqb a 0x2) (λ _. points refl) λ _.
    cond_case (Points r.xlp) (eqb a 0x3) (λ _. points refl) λ _.
    cond_case (Points r.xlp) (eqb a 0x5) (λ _. points refl) λ _.
    cond_case (Points r.xlp) (eqb a 0x7) (λ _. points refl) λ _.
    cond_case (Points r.xlp) (eqb a 0x8) (λ _. points refl) λ _.
    cond_case (Points r.xlp) (eqb a 0x9) (λ _. points refl) λ _.
    cond_case (Points r.xlp) (eqb a 0xA) (λ _. points refl) λ _.
    cond_case (Points r.xlp) (eqb a 0xB) (λ _. points refl) λ _.
    points refl

commanded_points : (r : Regs) (c : ℕ) → Points r.xlp (commanded r c)
unfolding commanded
commanded_points r c =
    cond_case (Points r.xlp) (eqb c 0x00) (λ _. points refl) λ _.
    cond_case (Points r.xlp) (eqb c 0x01) (λ _. points refl) λ _.
    cond_case (Points r.xlp) (eqb c 0x02) (λ _. points refl) λ _.
    cond_case (Points r.xlp) (eqb c 0x03) (λ _. points refl) λ _.
    cond_case (Points r.xlp) (eqb c 0x05 || eqb c 0x06) (λ _. points refl) λ _.
    cond_case (Points r.xlp) (eqb c 0x07) (λ _. points refl) λ _.
    cond_case (Points r.xlp) (eqb c 0x0D) (λ _. points refl) λ _.
    cond_case (Points r.xlp) (eqb c 0x0E) (λ _. points refl) λ _.
    points refl

-- 08 and 09 leave a pen sequence that waits
write_along : (s : State) (a v : ℕ) → Along s (after_write s a v)
unfolding after_write begun prompt ready_raises
write_along s a v =
    let command = (commanded_points s.regs v).at in
    cond_case (Along s) (eqb a 0x0)
    (λ _. cond_case (Along s) (prompting (kind v))
    (λ _. cond_case (Along s) (clearing v) (λ _. along refl (λ x. rw command x) (λ p. p))
    (λ _. cond_case (Along s) (eqb v 0x08 || eqb v 0x09)
    (λ _. along refl (λ x. rw command x) (λ _. and-false s.vb))
    (λ _. along refl (λ x. rw command x) (λ p. p))))
    (λ _. along refl (λ x. x) (λ p. p)))
    (λ _. along refl (λ x. rw (stored_points s.regs a v).at x) (λ p. p))

-- a read clears bit 0 of XLP, or leaves XLP
read_along : (s : State) (a : ℕ) → Along s (after_read s a)
unfolding after_read light_pen_read
read_along s a =
    cond_case (Along s) (eqb a 0x0) (λ _. along refl (λ x. x) (λ p. p))
    (λ _. cond_case (Along s) (eqb a 0xC || eqb a 0xD)
    (λ _. along refl (λ x. bit_other false 0 1 s.regs.xlp (omega arith) ∙ x) (λ p. p))
    (λ _. along refl (λ x. x) (λ p. p)))

-- cycles change none of this
after_along : (s : State) (n : ℕ) (w : Work) → Along s (after_of s n w)
unfolding after_of rested ready_raises
after_along s n Idle = along refl (λ x. x) (λ p. p)
after_along s n (Steps c p) =
    cond_case (Along s) (ltb (p + n) (cycles s.regs c)) (λ _. along refl (λ x. x) (λ p. p)) (λ _. along refl (λ x. x) (λ p. p))
after_along s n (Clear f o) = along refl (λ x. x) (λ p. p)

-- a VB rise leaves no open frame of the pen
clear_ends_lem : (s : State) → Along s (clear_ends s)
unfolding clear_ends ready_raises
clear_ends_lem s = cond_case (Along s) (ends_clear s) (λ _. along refl (λ x. x) (λ p. p)) (λ _. along refl (λ x. x) (λ p. p))

pen_ends : (s t : State) → Along s t → Along s (with_vb true (light_pen_ends t))
unfolding light_pen_ends light_pen_raises
pen_ends s t a =
    cond_case (λ (u : State). Along s (with_vb true u)) (light_pen_open t.light_pen)
    (λ _. along a.format a.xlp (λ _. refl))
    (λ e. along a.format a.xlp (λ _. e))

vb_along : (s : State) (level : Bool) → Along s (after_vb s level)
unfolding after_vb fallen risen vb_raises
vb_along s level =
    let up = pen_ends s (clear_ends s) (clear_ends_lem s) in
    cond_case (Along s) s.vb
    (λ _. cond_case (Along s) level (λ _. along refl (λ x. x) (λ p. p)) (λ _. along refl (λ x. x) (λ _. refl)))
    (λ _. cond_case (Along s) level (λ _. along up.format up.xlp up.light_pen) (λ _. along refl (λ x. x) (λ p. p)))

-- an edge loads XLP with 4h + 1 and ends the sequence
edge_along : (s : State) (h v : ℕ) → Along s (after_edge s h v)
unfolding after_edge light_pen_raises
edge_along s h v =
    let low : bit_at 1 (4 * h + 1) ≡ false = ne_eqb ((4 * h + 1) / 2 % 2) 1 (omega arith) in
    cond_case (Along s) (light_pen_open s.light_pen)
    (λ _. along refl (λ _. low) (λ _. and-false s.vb))
    (λ _. along refl (λ x. x) (λ p. p))

next_along : (c : Card) (e : Event) → Along c.state (next c e).state
unfolding next outcome_of written read_out granted blanked struck outcome after
next_along c (W a v) = answer_along _ _ (write_along c.state a v)
next_along c (R a) = answer_along _ _ (read_along c.state a)
next_along c (T n) = answer_along _ _ (after_along c.state n c.state.work)
next_along c (VB l) = answer_along _ _ (vb_along c.state l)
next_along c (LP h v) = answer_along _ _ (edge_along c.state h v)

pub way_along : (c : Card) (es : List Event) → Along c.state (played c es).state
unfolding played
way_along c [] = along refl (λ x. x) (λ p. p)
way_along c (e ∷ es) =
    let one = next_along c e in
    let more = way_along (next c e) es in
    along (more.format ∙ one.format) (λ x. more.xlp (one.xlp x)) (λ p. more.light_pen (one.light_pen p))

-- no clear runs
record Unclear (t : State) : Type 0 where
  clear : clears t.work ≡ false

unclear : {t : State} → clears t.work ≡ false → Unclear t
unclear e = record { clear = e }

-- an accepted write begins none but by its command
write_unclear : (s : State) (a v : ℕ) → (eqb a 0x0 && clearing v) ≡ false → clears s.work ≡ false
    → Unclear (written s a v).state
unfolding written answer after_write begun prompt ready_raises
write_unclear s a v h e =
    cond_case Unclear (eqb (write_number s a) 0)
    (λ _. cond_case Unclear (eqb a 0x0)
    (λ z. cond_case Unclear (prompting (kind v))
    (λ _. cond_case Unclear (clearing v) (λ y. let begins : (eqb a 0x0 && clearing v) ≡ true = rw (z, y) in absurd (true≢false (sym begins ∙ h)))
    (λ _. cond_case Unclear (eqb v 0x08 || eqb v 0x09) (λ _. unclear e) (λ _. unclear e)))
    (λ _. unclear refl))
    (λ _. unclear e))
    (λ _. unclear e)

-- and so the memory stays
pub way_still : (c : Card) (es : List Event) → draws_none es ≡ true → clears c.state.work ≡ false → (played c es).memory ≡ c.memory
unfolding played draws_none next outcome_of
way_still c [] h n = refl
way_still c (W a v ∷ es) h n =
    let b = and_parts (not (eqb a 0x0 && clearing v)) (draws_none es) h in
    way_still (next c (W a v)) es b.1 (write_unclear c.state a v (not-true _ b.0) n).clear
way_still c (R a ∷ es) h n = way_still (next c (R a)) es h (aside_kept n (read_aside c.state a)).clear
way_still c (T k ∷ es) h n = absurd (false≢true h)
way_still c (VB l ∷ es) h n =
    way_still (next c (VB l)) es h (aside_kept n (vb_aside c.state n l c.memory)).clear ∙ vb_memory c.state n l c.memory
way_still c (LP x y ∷ es) h n = way_still (next c (LP x y)) es h (aside_kept n (edge_aside c.state x y)).clear
