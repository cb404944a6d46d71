-- The parts of a good state: from the test `bad` to the record `Good` and back, and each part put anew.
-- Assumes nothing.
use mathlib.Core.Path.{◌≡◌, refl, sym, subst}
use mathlib.Core.Bool.{Bool, true, false, ◌||◌, false≢true}
use Prim.Native.Nat.{ℕ, ◌≤◌, ◌<◌}
use native.Mathlib.Omega.{arith}
use lib.Dec.{eqb}
use borrow.Author.Tests.{ltb-false, le-ltb, leb-false, lt-leb}
use Rattle.basis.proofs.Cases.{cond_case, or_parts, or_both}
use Rattle.picture.specs.Bit.{bit_at}
use Rattle.motion.specs.declared.position.Spot.{Spot}
use Rattle.rules.specs.Sequence.{Work, Idle, Steps, Clear, ready}
use Rattle.rules.specs.State.{Regs, Flags, State, regs, with_place, with_lpck, with_regs, with_work, with_flags}
use Rattle.rules.specs.Registers.{stored}
use Rattle.rules.specs.Figure.{cycles}
use Rattle.rules.specs.Commands.{commanded}
use Rattle.rules.specs.Refusals.{bad_regs, bad_work, bad}
use Rattle.rules.specs.Working.Good.{GoodRegs, GoodWork, Good}
use Rattle.rules.proofs.Figures.{cycles_kept}

-- the registers, from the test to the record and back
regs_from : (r : Regs) → bad_regs r ≡ false → GoodRegs r
unfolding bad_regs
regs_from r e =
    let h1 = or_parts _ _ e in
    let h2 = or_parts _ _ h1.0 in
    let h3 = or_parts _ _ h2.0 in
    let h4 = or_parts _ _ h3.0 in
    record {
      x = ltb-false 4095 r.x h4.0;
      y = ltb-false 4095 r.y h4.1;
      ctrl1 = ltb-false 127 r.ctrl1 h3.1;
      ctrl2 = ltb-false 15 r.ctrl2 h2.1;
      xlp = h1.1;
    }

regs_to : (r : Regs) → GoodRegs r → bad_regs r ≡ false
unfolding bad_regs
regs_to r g =
    let place = or_both (le-ltb 4095 r.x g.x) (le-ltb 4095 r.y g.y) in
    or_both (or_both (or_both place (le-ltb 127 r.ctrl1 g.ctrl1)) (le-ltb 15 r.ctrl2 g.ctrl2)) g.xlp

-- what runs, likewise
work_from : (r : Regs) (vb : Bool) (w : Work) → bad_work r vb w ≡ false → GoodWork r vb w
unfolding bad_work
work_from r vb Idle e = tt
work_from r vb (Steps c p) e = leb-false (cycles r c) p e
work_from r vb (Clear f o) e = e

work_to : (r : Regs) (vb : Bool) (w : Work) → GoodWork r vb w → bad_work r vb w ≡ false
unfolding bad_work
work_to r vb Idle h = refl
work_to r vb (Steps c p) h = lt-leb (cycles r c) p h
work_to r vb (Clear f o) h = h

-- a state that is not refused with 1 is good
pub good_from : (s : State) → bad s ≡ false → Good s
unfolding bad
good_from s e =
    let h = or_parts _ _ e in
    let k = or_parts _ _ h.0 in
    record { regs = regs_from s.regs k.0; work = work_from s.regs s.vb s.work k.1; light_pen = h.1 }

-- and a good state is not refused with 1
pub good_to : (s : State) → Good s → bad s ≡ false
unfolding bad
good_to s g = or_both (or_both (regs_to s.regs g.regs) (work_to s.regs s.vb s.work g.work)) g.light_pen

-- CTRL1 and CTRL2 put anew within their bits; CSIZE, DELTAX and DELTAY may be anything
controlled : {r : Regs} {c1 c2 : ℕ} (cs dx dy : ℕ) → GoodRegs r → c1 ≤ 127 → c2 ≤ 15
    → GoodRegs (regs c1 c2 cs dx dy r.x r.y r.xlp r.ylp)
controlled cs dx dy g h k = record { x = g.x; y = g.y; ctrl1 = h; ctrl2 = k; xlp = g.xlp }

-- X and Y put anew within 12 bits
pub placed : {r : Regs} {at : Spot} → GoodRegs r → at.x ≤ 4095 → at.y ≤ 4095 → GoodRegs (with_place at r)
placed g h k = record { x = h; y = k; ctrl1 = g.ctrl1; ctrl2 = g.ctrl2; xlp = g.xlp }

-- XLP put anew with bit 1 low
pub pointed : {r : Regs} {xl : ℕ} (yl : ℕ) → GoodRegs r → bit_at 1 xl ≡ false → GoodRegs (with_lpck xl yl r)
pointed yl g h = record { x = g.x; y = g.y; ctrl1 = g.ctrl1; ctrl2 = g.ctrl2; xlp = h }

-- the registers after an accepted write of a byte
pub stored_good : (r : Regs) (a v : ℕ) → v < 256 → GoodRegs r → GoodRegs (stored r a v)
unfolding stored
stored_good r a v b g =
    cond_case GoodRegs (eqb a 0x1) (λ _. controlled _ _ _ g (omega arith) g.ctrl2) λ _.
    cond_case GoodRegs (eqb a 0x2) (λ _. controlled _ _ _ g g.ctrl1 (omega arith)) λ _.
    cond_case GoodRegs (eqb a 0x3) (λ _. controlled _ _ _ g g.ctrl1 g.ctrl2) λ _.
    cond_case GoodRegs (eqb a 0x5) (λ _. controlled _ _ _ g g.ctrl1 g.ctrl2) λ _.
    cond_case GoodRegs (eqb a 0x7) (λ _. controlled _ _ _ g g.ctrl1 g.ctrl2) λ _.
    cond_case GoodRegs (eqb a 0x8) (λ _. placed g (omega arith) g.y) λ _.
    cond_case GoodRegs (eqb a 0x9) (λ _. placed g (omega arith) g.y) λ _.
    cond_case GoodRegs (eqb a 0xA) (λ _. placed g g.x (omega arith)) λ _.
    cond_case GoodRegs (eqb a 0xB) (λ _. placed g g.x (omega arith)) λ _.
    g

-- the registers after an accepted command
pub commanded_good : (r : Regs) (c : ℕ) → GoodRegs r → GoodRegs (commanded r c)
unfolding commanded
commanded_good r c g =
    cond_case GoodRegs (eqb c 0x00) (λ _. controlled _ _ _ g (omega arith) g.ctrl2) λ _.
    cond_case GoodRegs (eqb c 0x01) (λ _. controlled _ _ _ g (omega arith) g.ctrl2) λ _.
    cond_case GoodRegs (eqb c 0x02) (λ _. controlled _ _ _ g (omega arith) g.ctrl2) λ _.
    cond_case GoodRegs (eqb c 0x03) (λ _. controlled _ _ _ g (omega arith) g.ctrl2) λ _.
    cond_case GoodRegs (eqb c 0x05 || eqb c 0x06) (λ _. placed g (omega arith) (omega arith)) λ _.
    cond_case GoodRegs (eqb c 0x07) (λ _. placed (controlled _ _ _ g (omega arith) (omega arith)) (omega arith) (omega arith)) λ _.
    cond_case GoodRegs (eqb c 0x0D) (λ _. placed g (omega arith) g.y) λ _.
    cond_case GoodRegs (eqb c 0x0E) (λ _. placed g g.x (omega arith)) λ _.
    g

-- while no command runs, any registers go
pub ready_work : (r : Regs) (vb : Bool) (w : Work) → ready w ≡ true → GoodWork r vb w
ready_work r vb Idle e = tt
ready_work r vb (Steps c p) e = absurd (false≢true e)
ready_work r vb (Clear f o) e = absurd (false≢true e)

-- the cycles of a command depend neither on CTRL1, X and Y nor on XLP and YLP, so it stays good when they are put anew
pub work_kept : (r : Regs) (c1 x y xl yl : ℕ) (vb : Bool) (w : Work) → GoodWork r vb w
    → GoodWork (regs c1 r.ctrl2 r.csize r.deltax r.deltay x y xl yl) vb w
work_kept r c1 x y xl yl vb Idle h = tt
work_kept r c1 x y xl yl vb (Steps c p) h = subst (λ (n : ℕ). p < n) (sym (cycles_kept r c1 x y xl yl c)) h
work_kept r c1 x y xl yl vb (Clear f o) h = h

-- the state with its registers, what runs, or its flags put anew
pub regs_put : {s : State} {r : Regs} → Good s → GoodRegs r → GoodWork r s.vb s.work → Good (with_regs r s)
regs_put g h k = record { regs = h; work = k; light_pen = g.light_pen }

pub work_put : {s : State} {w : Work} → Good s → GoodWork s.regs s.vb w → Good (with_work w s)
work_put g h = record { regs = g.regs; work = h; light_pen = g.light_pen }

pub flags_put : {s : State} (f : Flags) → Good s → Good (with_flags f s)
flags_put f g = record { regs = g.regs; work = g.work; light_pen = g.light_pen }
