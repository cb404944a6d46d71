-- Eight writes put the registers back, in one order or another, and the eraser is taken by a ninth or by command 01, first or
-- last: each is accepted.
-- Assumes nothing.
use mathlib.Core.Path.{◌≡◌, refl, ap, ◌∙◌, subst}
use mathlib.Core.Bool.{Bool, false, ◌||◌}
use mathlib.Core.List.{◌++◌}
use Prim.Native.Nat.{ℕ, ◌+◌, ◌*◌, ◌/◌, ◌%◌, ◌≤◌, ◌<◌}
use native.Mathlib.Omega.{arith}
use lib.Dec.{eqb}
use Rattle.basis.proofs.Cases.{or_parts}
use Rattle.picture.specs.Bit.{bit_at, with_bit}
use Rattle.picture.proofs.Laws.{bit_other}
use Rattle.parts.specs.Command.{kind}
use Rattle.parts.specs.Refusal.{lowest}
use Rattle.rules.specs.Sequence.{ready}
use Rattle.rules.specs.State.{Regs, State, regs, flags, state, with_ctrl1, with_lpck, with_regs, with_flags, ready_raises}
use Rattle.rules.specs.Registers.{stored}
use Rattle.rules.specs.Commands.{commanded, clearing, prompt, begun, after_write}
use Rattle.rules.specs.Refusals.{bad, busy, no_register, read_only, write_number}
use Rattle.rules.specs.Calls.{answer, written}
use Rattle.rules.specs.Card.{Card, W, outcome_of, next, played}
use Rattle.rules.specs.Working.Good.{GoodRegs}
use Rattle.rules.proofs.Laws.{good_from, good_to, stored_good, ready_work, regs_put, flags_put}
use Rattle.lists.specs.Erase.{back_to, backwards_to, eraser_by_write, eraser_by_command}
use Rattle.lists.proofs.Items.{Calm}
use Rattle.lists.proofs.Twin.{relit, beside, relit_good, side_of}
use Rattle.lists.proofs.Played.{with_state}

-- card c with the registers of state s but CTRL1 bit 1, which is low; XLP and YLP are its own, and flag ready is as asked
abbrev pub back_on : Bool → State → Card → Card
back_on ready s c =
    let t = c.state in
    let k = side_of false ready t in
    with_state (state t.format (beside k s.regs) t.work k.light_pen k.vb k.flags) c

-- CSIZE, DELTAX and DELTAY may be anything
free : {r : Regs} (cs dx dy : ℕ) → GoodRegs r
    → GoodRegs (regs r.ctrl1 r.ctrl2 cs dx dy r.x r.y r.xlp r.ylp)
free cs dx dy g = record { x = g.x; y = g.y; ctrl1 = g.ctrl1; ctrl2 = g.ctrl2; xlp = g.xlp }

-- card d is c with registers r, which no call refuses with 1
record Holds (c : Card) (r : Regs) (d : Card) : Type 0 where
  card : d ≡ with_state (with_regs r c.state) c
  good : GoodRegs r

module _ (c : Card) (calm : Calm c.state) where
  -- with such registers no call refuses with 1, so a write that is no command is accepted
  holds_good : (r : Regs) → GoodRegs r → bad (with_regs r c.state) ≡ false
  holds_good r g =
      let s = c.state in
      good_to (with_regs r s) (regs_put (good_from s calm.good) g (ready_work r s.vb s.work (ap ready calm.idle)))

  send : (a v : ℕ) → (no_register a || read_only a || eqb a 0x0) ≡ false → {r : Regs} {d : Card}
      → Holds c r d → GoodRegs (stored r a v) → Holds c (stored r a v) (next d (W a v))
  unfolding next outcome_of written answer write_number lowest busy after_write
  send a v f {r} {d} h g =
      let k = or_parts (no_register a || read_only a) (eqb a 0x0) f in
      let l = or_parts (no_register a) (read_only a) k.0 in
      record {
        card = rw (h.card, holds_good r h.good, l.0, l.1, k.1, ap ready calm.idle);
        good = g;
      }

  -- to begin with the registers are its own
  start : Holds c c.state.regs c
  start = record { card = refl; good = (good_from c.state calm.good).regs }

  -- a byte leaves such registers again
  send_byte : (a v : ℕ) → (no_register a || read_only a || eqb a 0x0) ≡ false → v < 256 → {r : Regs} {d : Card}
      → Holds c r d → Holds c (stored r a v) (next d (W a v))
  send_byte a v f b {r} h = send a v f h (stored_good r a v b h.good)

  -- the registers that the writes lead to: CTRL1, XLP and YLP of the card, the others of s
  back : State → Regs
  back s =
      let r = s.regs in
      let t = c.state.regs in
      regs t.ctrl1 r.ctrl2 r.csize r.deltax r.deltay r.x r.y t.xlp t.ylp

  -- the two halves written, in either order
  halves : (x y : ℕ) → x ≤ 4095 → (x / 256 % 16 * 256 + y % 256) / 256 * 256 + x % 256 ≡ x
  halves x y h = omega arith

  lower_first : (x y : ℕ) → x ≤ 4095 → x / 256 % 16 * 256 + (y / 256 * 256 + x % 256) % 256 ≡ x
  lower_first x y h = omega arith

  -- X, Y and CTRL2 are then those of s
  settled : (s : State) → GoodRegs s.regs → {x y : ℕ} {d : Card} → x ≡ s.regs.x → y ≡ s.regs.y
      → Holds c (regs c.state.regs.ctrl1 (s.regs.ctrl2 % 16) s.regs.csize s.regs.deltax s.regs.deltay x y c.state.regs.xlp c.state.regs.ylp) d
      → Holds c (back s) d
  unfolding back
  settled s g {d = d} ex ey h =
      let r = s.regs in
      let t = c.state.regs in
      let ec : r.ctrl2 % 16 ≡ r.ctrl2 = omega (arith, g.ctrl2) in
      let e : _ ≡ back s = λ j. regs t.ctrl1 (ec j) r.csize r.deltax r.deltay (ex j) (ey j) t.xlp t.ylp in
      subst (λ (z : Regs). Holds c z d) e h

  -- the eight writes lead to them
  put_back : (s : State) → GoodRegs s.regs → Holds c (back s) (played c (back_to s))
  unfolding played back_to stored no_register read_only
  put_back s g =
      let r = s.regs in
      let t = c.state.regs in
      let h2 = send_byte 0x2 r.ctrl2 refl (omega (arith, g.ctrl2)) start in
      let h3 = send 0x3 r.csize refl h2 (free r.csize t.deltax t.deltay h2.good) in
      let h5 = send 0x5 r.deltax refl h3 (free r.csize r.deltax t.deltay h3.good) in
      let h7 = send 0x7 r.deltay refl h5 (free r.csize r.deltax r.deltay h5.good) in
      let h8 = send_byte 0x8 (r.x / 256) refl (omega (arith, g.x)) h7 in
      let h9 = send_byte 0x9 (r.x % 256) refl (omega arith) h8 in
      let hA = send_byte 0xA (r.y / 256) refl (omega (arith, g.y)) h9 in
      let hB = send_byte 0xB (r.y % 256) refl (omega arith) hA in
      settled s g (halves r.x t.x g.x) (halves r.y t.y g.y) hB

  -- and so do they in the other order
  put_backwards : (s : State) → GoodRegs s.regs → Holds c (back s) (played c (backwards_to s))
  unfolding played backwards_to stored no_register read_only
  put_backwards s g =
      let r = s.regs in
      let t = c.state.regs in
      let hB = send_byte 0xB (r.y % 256) refl (omega arith) start in
      let hA = send_byte 0xA (r.y / 256) refl (omega (arith, g.y)) hB in
      let h9 = send_byte 0x9 (r.x % 256) refl (omega arith) hA in
      let h8 = send_byte 0x8 (r.x / 256) refl (omega (arith, g.x)) h9 in
      let h7 = send 0x7 r.deltay refl h8 (free t.csize t.deltax r.deltay h8.good) in
      let h5 = send 0x5 r.deltax refl h7 (free t.csize r.deltax r.deltay h7.good) in
      let h3 = send 0x3 r.csize refl h5 (free r.csize r.deltax r.deltay h5.good) in
      let h2 = send_byte 0x2 r.ctrl2 refl (omega (arith, g.ctrl2)) h3 in
      settled s g (lower_first r.x t.x g.x) (lower_first r.y t.y g.y) h2

  -- then CTRL1 bit 1 made low by a write, the other bits as in s
  pub back_by_write : (s : State) → GoodRegs s.regs → played c (back_to s ++ eraser_by_write s) ≡ back_on c.state.flags.ready s c
  unfolding played back_to eraser_by_write stored no_register read_only back
  back_by_write s g =
      let v = with_bit false 1 s.regs.ctrl1 in
      let fits : v ≤ 127 = (relit_good false s.regs g).ctrl1 in
      let same : v % 128 ≡ v = omega arith in
      (send_byte 0x1 v refl (omega arith) (put_back s g)).card
      ∙ ap (λ (n : ℕ). with_state (with_regs (with_ctrl1 n (back s)) c.state) c) same

  -- command 01 makes it low too, and ready rises
  erases : (r : Regs) {d : Card} → Holds c r d
      → next d (W 0x0 0x01) ≡ with_state (ready_raises (with_regs (relit false r) c.state)) c
  unfolding next outcome_of written answer write_number lowest busy no_register read_only after_write begun kind commanded prompt clearing
  erases r h = rw (h.card, holds_good r h.good, ap ready calm.idle)

  -- where CTRL1 is that of s, its bit 6 says whether
  abbrev risen : State → ℕ → Bool → Card
  risen s n b =
      let t = c.state in
      let put = with_lpck t.regs.xlp t.regs.ylp (with_ctrl1 n s.regs) in
      with_state (with_flags (flags t.flags.light_pen t.flags.vb (t.flags.ready || b)) (with_regs put t)) c

  raised : (s : State) → c.state.regs.ctrl1 ≡ s.regs.ctrl1
      → with_state (ready_raises (with_regs (relit false (back s)) c.state)) c ≡ back_on (c.state.flags.ready || bit_at 6 s.regs.ctrl1) s c
  unfolding ready_raises back
  raised s e =
      let n = c.state.regs.ctrl1 in
      ap (risen s (with_bit false 1 n)) (bit_other false 1 6 n (omega arith))
      ∙ ap (λ (m : ℕ). risen s (with_bit false 1 m) (bit_at 6 m)) e

  pub back_by_command : (s : State) → GoodRegs s.regs → c.state.regs.ctrl1 ≡ s.regs.ctrl1
      → played c (back_to s ++ eraser_by_command) ≡ back_on (c.state.flags.ready || bit_at 6 s.regs.ctrl1) s c
  unfolding played back_to eraser_by_command
  back_by_command s g e = erases (back s) (put_back s g) ∙ raised s e

-- the eraser first, and then the registers in the other order
pub eraser_then_back : (c : Card) → Calm c.state → (s : State) → GoodRegs s.regs → c.state.regs.ctrl1 ≡ s.regs.ctrl1
    → played c (eraser_by_command ++ backwards_to s) ≡ back_on (c.state.flags.ready || bit_at 6 s.regs.ctrl1) s c
unfolding played eraser_by_command ready_raises back
eraser_then_back c k s g e =
    let t = c.state in
    let d = with_state (ready_raises (with_regs (relit false t.regs) t)) c in
    let good = flags_put d.state.flags (good_from (with_regs (relit false t.regs) t) (holds_good c k (relit false t.regs) (relit_good false t.regs (good_from t k.good).regs))) in
    let erased : Calm d.state = record { good = good_to d.state good; idle = k.idle } in
    ap (λ (x : Card). played x (backwards_to s)) (erases c k t.regs (start c k))
    ∙ (put_backwards d erased s g).card
    ∙ raised c k s e
