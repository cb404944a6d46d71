-- No call leads from a state that is not refused with 1 to one that is. Acceptance is needed only where a register is
-- written; a refused call hands the state back. The laws of `Good` come first, those of `bad` for each call last.
-- Assumes nothing.
use mathlib.Core.Path.{◌≡◌, refl, ◌∙◌}
use mathlib.Core.Bool.{Bool, true, false, ◌||◌, and-false, true≢false}
use mathlib.Core.List.{[], ◌∷◌}
use Prim.Native.Nat.{ℕ, ◌+◌, ◌*◌, ◌/◌, ◌%◌, ◌<◌}
use native.Mathlib.Nat.{mul-pos}
use native.Mathlib.Omega.{arith}
use lib.Dec.{eqb, ltb}
use borrow.Author.Tests.{ltb-true, eqb-true, ne_eqb, not-false}
use Rattle.basis.proofs.Cases.{cond_case}
use Rattle.picture.specs.Bit.{bit_at, with_bit}
use Rattle.picture.proofs.Laws.{bit_other}
use Rattle.motion.specs.declared.position.Spot.{Spot}
use Rattle.motion.specs.Position.{moved}
use Rattle.motion.specs.Vector.{vector_cycles}
use Rattle.motion.proofs.Laws.{scale_some}
use Rattle.motion.specs.Character.{scale, scale_p, scale_q, character_of, block_of, body_cycles}
use Rattle.parts.specs.declared.format.Format.{Format}
use Rattle.parts.specs.declared.command.Kind.{Kind}
use Rattle.parts.specs.declared.command.Kind.TheVariants.{NoCycle, OneCycle, Vector, Character, Block}
use Rattle.parts.specs.Command.{kind, prompting}
use Rattle.parts.proofs.Laws.{lowest_zero}
use Rattle.drawing.specs.Figure.{Figure, cycles_of}
use Rattle.drawing.specs.Run.{place_of, rest_of}
use Rattle.rules.specs.Sequence.{Work, Idle, Steps, Clear, ready, light_pen_open, work_falls, work_rises}
use Rattle.rules.specs.State.{Regs, State, with_place, with_regs, fresh, light_pen_raises, vb_raises, ready_raises}
use Rattle.rules.specs.Registers.{light_pen_read, after_read}
use Rattle.rules.specs.Figure.{figure_by, figure, cycles, Tables}
use Rattle.rules.specs.Cycles.{start, rested, after_of, after}
use Rattle.rules.specs.Commands.{commanded, clearing, prompt, begun, after_write}
use Rattle.rules.specs.Blanking.{fallen, ends_clear, clear_ends, light_pen_ends, risen, after_vb, after_edge}
use Rattle.rules.specs.Refusals.{bad_regs, bad_work, bad, busy, no_register, read_only, write_number}
use Rattle.rules.specs.Calls.{Memory, answer, outcome, written, read_out, granted, blanked, struck}
use Rattle.rules.specs.Working.Good.{GoodRegs, GoodWork, Good}
use Rattle.rules.proofs.GoodParts.{good_from, good_to, placed, pointed, stored_good, commanded_good, ready_work, work_kept, regs_put, work_put, flags_put}

-- granted cycles leave X and Y modulo 4,096, and a command that has cycles left, or none
rest_range : (f : Figure) (at : Spot) (i : ℕ) → ((rest_of f at i).x < 4096) × ((rest_of f at i).y < 4096)
unfolding rest_of place_of moved
rest_range f at i = cond_case (λ (s : Spot). (s.x < 4096) × (s.y < 4096)) (ltb i (cycles_of f)) (λ _. (omega arith, omega arith)) (λ _. (omega arith, omega arith))

after_work : (s : State) (n : ℕ) → Good s → (w : Work) → GoodWork s.regs s.vb w → Good (after_of s n w)
unfolding after_of rested ready_raises
after_work s n g Idle h = g
after_work s n g (Steps c p) h =
    let more = ltb (p + n) (cycles s.regs c) in
    let at = rest_of (figure s.regs c) (start s.regs c p) (p + n) in
    let range = rest_range (figure s.regs c) (start s.regs c p) (p + n) in
    let here : GoodRegs (with_place at s.regs) = placed g.regs (omega (arith, range.0)) (omega (arith, range.1)) in
    cond_case Good more
    (λ e. record { regs = here; work = work_kept s.regs _ _ _ _ _ s.vb (Steps c (p + n)) (ltb-true _ _ e); light_pen = g.light_pen })
    λ _. record { regs = here; work = tt; light_pen = g.light_pen }
after_work s n g (Clear f o) h = g

pub after_keeps : (s : State) (n : ℕ) → Good s → Good (after s n)
unfolding after
after_keeps s n g = after_work s n g s.work g.work

-- P and Q are at least 1, so no body of a times P columns and b times Q rows is empty
body_some : (a b m n : ℕ) → 0 < a → 0 < b → 0 < a * scale m * (b * scale n)
body_some a b m n h k = mul-pos (mul-pos h (scale_some m)) (mul-pos k (scale_some n))

-- a command takes no write cycle, or has at least one
some_of : (r : Regs) (c : ℕ) (k : Kind) → prompting k ≡ false → 0 < cycles_of (figure_by r c k)
unfolding figure_by cycles_of vector_cycles body_cycles character_of block_of scale_p scale_q
some_of r c NoCycle e = absurd (true≢false e)
some_of r c OneCycle e = omega arith
some_of r c Vector e = omega arith
some_of r c Character e = body_some 6 8 _ _ (omega arith) (omega arith)
some_of r c Block e = body_some 4 4 _ _ (omega arith) (omega arith)

pub some_cycles : (r : Regs) (c : ℕ) → prompting (kind c) ≡ false → 0 < cycles r c
unfolding cycles figure
some_cycles r c e = some_of r c (kind c) e

-- a command without write cycles leaves a clear or a pen sequence that waits for its frame, or what was
prompt_keeps : (s : State) (c : ℕ) → Good s → Good (prompt s c)
unfolding prompt ready_raises
prompt_keeps s c g =
    cond_case Good (clearing c) (λ _. work_put g (and-false s.vb)) λ _.
    cond_case Good (eqb c 0x08 || eqb c 0x09) (λ _. record { regs = g.regs; work = g.work; light_pen = and-false s.vb }) λ _.
    flags_put _ g

-- a command that begins while none runs
pub begun_keeps : (s : State) (c : ℕ) → ready s.work ≡ true → Good s → Good (begun s c)
unfolding begun
begun_keeps s c i g =
    let r = commanded s.regs c in
    cond_case Good (prompting (kind c))
    (λ _. prompt_keeps (with_regs r s) c (regs_put g (commanded_good s.regs c g.regs) (ready_work r s.vb s.work i)))
    (λ e. work_put g (some_cycles s.regs c e))

-- where a write is accepted the state is good and no command runs
pub write_accepted : (s : State) (a : ℕ) → write_number s a ≡ 0 → Good s × (ready s.work ≡ true)
unfolding write_number busy
write_accepted s a e =
    let none = lowest_zero ((1, bad s) ∷ (4, no_register a) ∷ (5, read_only a) ∷ (6, busy s) ∷ []) tt e in
    (good_from s none.0, not-false (ready s.work) none.1.1.1.0)

-- so its next state is good
write_keeps : (s : State) (a v : ℕ) → v < 256 → write_number s a ≡ 0 → Good (after_write s a v)
unfolding after_write
write_keeps s a v b e =
    let f = write_accepted s a e in
    cond_case Good (eqb a 0x0)
    (λ _. begun_keeps s v f.1 f.0)
    λ _. regs_put f.0 (stored_good s.regs a v b f.0.regs) (ready_work _ s.vb s.work f.1)

-- a read clears the flags, or bit 0 of XLP
read_keeps : (s : State) (a : ℕ) → Good s → Good (after_read s a)
unfolding after_read light_pen_read
read_keeps s a g =
    let low : bit_at 1 (with_bit false 0 s.regs.xlp) ≡ false = bit_other false 0 1 s.regs.xlp (omega arith) ∙ g.regs.xlp in
    cond_case Good (eqb a 0x0) (λ _. flags_put _ g) λ _.
    cond_case Good (eqb a 0xC || eqb a 0xD)
    (λ _. regs_put g (pointed _ g.regs low) (work_kept s.regs _ _ _ _ _ s.vb s.work g.work)) λ _.
    g

-- VB falls: it is low in the frames that open
falls : (r : Regs) (vb : Bool) (w : Work) → GoodWork r vb w → GoodWork r false (work_falls w)
falls r vb Idle h = tt
falls r vb (Steps c p) h = h
falls r vb (Clear f o) h = refl

fallen_keeps : (s : State) → Good s → Good (fallen s)
unfolding fallen
fallen_keeps s g = record { regs = g.regs; work = falls s.regs s.vb s.work g.work; light_pen = refl }

-- VB rises: no frame is open after it, and the registers stay
closes : (r : Regs) (vb : Bool) (w : Work) → GoodWork r vb w → GoodWork r true (work_rises w)
closes r vb Idle h = tt
closes r vb (Steps c p) h = h
closes r vb (Clear f o) h = refl

clear_keeps : (s : State) → Good s → GoodRegs (clear_ends s).regs × GoodWork (clear_ends s).regs true (clear_ends s).work
unfolding clear_ends ready_raises
clear_keeps s g =
    cond_case (λ (t : State). GoodRegs t.regs × GoodWork t.regs true t.work) (ends_clear s)
    (λ _. (g.regs, tt))
    (λ _. (g.regs, closes s.regs s.vb s.work g.work))

pen_keeps : (s : State) → GoodRegs s.regs × GoodWork s.regs true s.work
    → GoodRegs (light_pen_ends s).regs × GoodWork (light_pen_ends s).regs true (light_pen_ends s).work × (light_pen_open (light_pen_ends s).light_pen ≡ false)
unfolding light_pen_ends light_pen_raises
pen_keeps s g =
    cond_case (λ (t : State). GoodRegs t.regs × GoodWork t.regs true t.work × (light_pen_open t.light_pen ≡ false)) (light_pen_open s.light_pen)
    (λ _. (g.0, g.1, refl))
    (λ e. (g.0, g.1, e))

risen_keeps : (s : State) → Good s → Good (risen s)
unfolding risen vb_raises
risen_keeps s g =
    let h = pen_keeps (clear_ends s) (clear_keeps s g) in
    record { regs = h.0; work = h.1; light_pen = h.2 }

-- a VB call
vb_keeps : (s : State) (level : Bool) → Good s → Good (after_vb s level)
unfolding after_vb
vb_keeps s level g =
    cond_case Good s.vb
    (λ _. cond_case Good level (λ _. g) (λ _. fallen_keeps s g))
    (λ _. cond_case Good level (λ _. risen_keeps s g) (λ _. g))

-- an LPCK edge: bit 1 of 4h + 1 is low
edge_keeps : (s : State) (h v : ℕ) → Good s → Good (after_edge s h v)
unfolding after_edge light_pen_raises
edge_keeps s h v g =
    let low : bit_at 1 (4 * h + 1) ≡ false = ne_eqb ((4 * h + 1) / 2 % 2) 1 (omega arith) in
    let work = work_kept s.regs s.regs.ctrl1 s.regs.x s.regs.y (4 * h + 1) v s.vb s.work g.work in
    cond_case Good (light_pen_open s.light_pen)
    (λ _. record { regs = pointed v g.regs low; work = work; light_pen = and-false s.vb })
    λ _. g

-- the fresh state is not refused with 1
pub fresh_good : (f : Format) → bad (fresh f) ≡ false
unfolding bad bad_regs bad_work fresh
fresh_good f = refl

-- nor is one that was not, after granted cycles
pub after_good : (s : State) (n : ℕ) → bad s ≡ false → bad (after s n) ≡ false
after_good s n e = good_to (after s n) (after_keeps s n (good_from s e))

-- nor one in which a command was accepted
pub begun_good : (s : State) (c : ℕ) → write_number s 0x0 ≡ 0 → bad (begun s c) ≡ false
begun_good s c e =
    let f = write_accepted s 0x0 e in
    good_to (begun s c) (begun_keeps s c f.1 f.0)

-- what a call answers: the next state where the number is 0, the state as handed in where it is not
answer_good : (number value : ℕ) (next s : State) → (number ≡ 0 → Good s → Good next) → bad s ≡ false
    → bad (answer number value next s).state ≡ false
unfolding answer
answer_good number value next s f e =
    cond_case (λ (t : State). bad t ≡ false) (eqb number 0) (λ z. good_to next (f (eqb-true number 0 z) (good_from s e))) (λ _. e)

-- write a register; v is a byte
pub write_good : (s : State) (a v : ℕ) → v < 256 → bad s ≡ false → bad (written s a v).state ≡ false
unfolding written
write_good s a v b = answer_good _ _ (after_write s a v) s (λ z _. write_keeps s a v b z)

-- read a register
pub read_good : (s : State) (a : ℕ) → bad s ≡ false → bad (read_out s a).state ≡ false
unfolding read_out
read_good s a = answer_good _ _ (after_read s a) s (λ _. read_keeps s a)

-- grant write cycles
pub grant_good : (s : State) (n : ℕ) (p : Memory) (t : Tables) → bad s ≡ false → bad (granted s n p t).answer.state ≡ false
unfolding granted outcome
grant_good s n p t = answer_good _ _ (after s n) s (λ _. after_keeps s n)

-- set the VB level
pub vb_good : (s : State) (level : Bool) (p : Memory) → bad s ≡ false → bad (blanked s level p).answer.state ≡ false
unfolding blanked outcome
vb_good s level p = answer_good _ _ (after_vb s level) s (λ _. vb_keeps s level)

-- report an LPCK edge
pub edge_good : (s : State) (h v : ℕ) → bad s ≡ false → bad (struck s h v).state ≡ false
unfolding struck
edge_good s h v = answer_good _ _ (after_edge s h v) s (λ _. edge_keeps s h v)
