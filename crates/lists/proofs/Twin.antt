-- A list does not see CTRL1 bit 1, XLP, YLP, the pen's sequence, VB, nor the flags: beside a processor, its twin with others of
-- these takes the same items, writes the same dots, and stays the twin.
-- Assumes nothing.
use mathlib.Core.Path.{◌≡◌, refl, sym, ap, ap₂, ◌∙◌}
use mathlib.Core.Bool.{Bool, true, false, cond, ◌&&◌, ◌||◌, or_assoc, or_self}
use mathlib.Core.List.{List, [], ◌∷◌, ◌++◌}
use Prim.Native.Nat.{ℕ, ◌+◌, ◌-◌, min}
use native.Mathlib.Omega.{arith}
use lib.Dec.{eqb, ltb}
use Rattle.basis.proofs.Cases.{cond_ap}
use Rattle.picture.specs.Bit.{bit_at, with_bit}
use Rattle.picture.proofs.Laws.{bit_other, bit_keep}
use Rattle.motion.specs.declared.position.Spot.{Spot}
use Rattle.parts.specs.declared.format.Format.{Format}
use Rattle.parts.specs.Format.{window}
use Rattle.parts.specs.Command.{kind}
use Rattle.drawing.specs.Figure.{Figure, cycles_of}
use Rattle.drawing.specs.Run.{start_of, rest_of, mark, dot_of, dots_from}
use Rattle.rules.specs.Sequence.{Work, Idle, Steps, Clear, LightPen, Off, ready, light_pen_open}
use Rattle.rules.specs.State.{Regs, Flags, State, regs, flags, state, with_ctrl1, with_place, with_lpck, with_regs, with_work, with_flags, ready_raises}
use Rattle.rules.specs.Registers.{stored}
use Rattle.rules.specs.Figure.{Tables, figure, cycles, glyph}
use Rattle.rules.specs.Cycles.{pen_down, lights, cyclic, tip, here, start, left_of, left, dots_of, dots, rested, after_of, after}
use Rattle.rules.specs.Commands.{commanded, clearing, prompt, begun, after_write}
use Rattle.rules.specs.Refusals.{bad, busy, write_number}
use Rattle.rules.specs.Calls.{answer, written}
use Rattle.rules.specs.Working.Good.{GoodRegs}
use Rattle.rules.proofs.Laws.{figure_kept, good_from, good_to, commanded_good, ready_work}
use Rattle.lists.specs.Item.{Item, address, value}
use Rattle.lists.specs.Play.{taking, done, item_dots, done_all, list_dots}
use Rattle.lists.specs.Erase.{Relit}
use Rattle.lists.proofs.Items.{drawn_begun, each, Calm, done_calm}

-- the registers with CTRL1 bit 1 made as asked, all else as it was
abbrev pub relit : Bool → Regs → Regs
relit lit r = with_ctrl1 (with_bit lit 1 r.ctrl1) r

-- what no list looks at: CTRL1 bit 1, XLP and YLP, the pen's sequence, VB, the flags
pub record Side : Type 0 where
  pub lit : Bool
  pub xlp : ℕ
  pub ylp : ℕ
  pub light_pen : LightPen
  pub vb : Bool
  pub flags : Flags

-- the registers with such a side
abbrev pub beside : Side → Regs → Regs
beside k r = with_lpck k.xlp k.ylp (relit k.lit r)

-- the twin with such a side: flag ready is high besides where the state has it
abbrev pub twin : Side → State → State
twin k s =
    state s.format (beside k s.regs) s.work k.light_pen k.vb
    (flags k.flags.light_pen k.flags.vb (k.flags.ready || s.flags.ready))

-- a side for which no call refuses with 1: bit 1 of XLP is low, and so is VB inside an open frame of the pen
pub record GoodSide (k : Side) : Type 0 where
  pub xlp : bit_at 1 k.xlp ≡ false
  pub light_pen : (k.vb && light_pen_open k.light_pen) ≡ false

-- commands 00 and 01 make CTRL1 bit 1 too, so no call refuses such registers with 1 where it did not refuse the others
pub relit_good : (lit : Bool) (r : Regs) → GoodRegs r → GoodRegs (relit lit r)
unfolding commanded
relit_good true r = commanded_good r 0x00
relit_good false r = commanded_good r 0x01

-- a state and its twin
module _ (k : Side) where
  -- neither CTRL1 nor XLP and YLP have a part in a command's figure
  same_figure : (r : Regs) (c : ℕ) → figure (beside k r) c ≡ figure r c
  same_figure r c = figure_kept r (with_bit k.lit 1 r.ctrl1) r.x r.y k.xlp k.ylp c

  -- nor has CTRL1 bit 1 in the dots: bit 0 says whether they are written, bit 3 how the screen ends
  tip_blind : (g : Format) (r : Regs) (a : Figure) (gl : List ℕ) (at : Spot) (i n : ℕ)
      → dots_from (tip g (beside k r)) a gl at i n ≡ dots_from (tip g r) a gl at i n
  unfolding dots_from dot_of mark tip pen_down cyclic
  tip_blind g r a gl at i n =
      let down = bit_other k.lit 1 0 r.ctrl1 (omega arith) in
      let wraps = bit_other k.lit 1 3 r.ctrl1 (omega arith) in
      λ j. dots_from (record { window = window g (wraps j); down = down j; lit = k.lit }) a gl at i n

  -- ready rises in both: bit 6 of CTRL1 is the same
  twin_raises : (s : State) → ready_raises (twin k s) ≡ twin k (ready_raises s)
  unfolding ready_raises
  twin_raises s =
      let was = s.flags.ready in
      let up = k.flags.ready in
      let b = bit_other k.lit 1 6 s.regs.ctrl1 (omega arith) in
      ap (λ (b : Bool). with_flags (flags k.flags.light_pen k.flags.vb b) (twin k s))
      (ap (λ (b : Bool). up || was || b) b ∙ or_assoc up was (bit_at 6 s.regs.ctrl1))

  -- as many cycles are left
  left_work : (r : Regs) (w : Work) → left_of (beside k r) w ≡ left_of r w
  unfolding left_of cycles
  left_work r Idle = refl
  left_work r (Steps c p) = ap (λ (a : Figure). cycles_of a - p) (same_figure r c)
  left_work r (Clear g o) = refl

  twin_left : (s : State) → left (twin k s) ≡ left s
  unfolding left
  twin_left s = left_work s.regs s.work

  -- cycles write the same dots
  dots_work : (g : Format) (r : Regs) (t : Tables) (n : ℕ) (w : Work) → dots_of g (beside k r) t n w ≡ dots_of g r t n w
  unfolding dots_of start cycles
  dots_work g r t n Idle = refl
  dots_work g r t n (Steps c p) =
      ap (λ (a : Figure). dots_from (tip g (beside k r)) a (glyph t c) (start_of a p (here r)) p (min n (cycles_of a - p))) (same_figure r c)
      ∙ tip_blind g r (figure r c) (glyph t c) (start r c p) p (min n (cycles r c - p))
  dots_work g r t n (Clear h o) = refl

  pub twin_dots : (s : State) (t : Tables) (n : ℕ) → dots (twin k s) t n ≡ dots s t n
  unfolding dots
  twin_dots s t n = dots_work s.format s.regs t n s.work

  -- and leave the twin
  twin_rested : (s : State) (c p i : ℕ) → rested (twin k s) c p i ≡ twin k (rested s c p i)
  unfolding rested start
  twin_rested s c p i =
      ap (λ (a : Figure). with_regs (with_place (rest_of a (start_of a p (here s.regs)) i) (beside k s.regs)) (twin k s))
      (same_figure s.regs c)

  after_work : (s : State) (n : ℕ) (w : Work) → after_of (twin k s) n w ≡ twin k (after_of s n w)
  unfolding after_of cycles
  after_work s n Idle = refl
  after_work s n (Steps c p) =
      let i = p + n in
      let standing = with_work (Steps c i) (rested s c p i) in
      let idle = with_work Idle (rested s c p i) in
      (λ j. cond (ltb i (cycles_of (same_figure s.regs c j)))
      (with_work (Steps c i) (twin_rested s c p i j))
      (ready_raises (with_work Idle (twin_rested s c p i j))))
      ∙ ap (cond (ltb i (cycles s.regs c)) (twin k standing)) (twin_raises idle)
      ∙ cond_ap (twin k) (ltb i (cycles s.regs c)) standing (ready_raises idle)
  after_work s n (Clear g o) = refl

  pub twin_after : (s : State) (n : ℕ) → after (twin k s) n ≡ twin k (after s n)
  unfolding after
  twin_after s n = after_work s n s.work

  -- an item that is accepted does the same to both
  twin_accepted : (s : State) (it : Item)
      → after_write (twin k s) (address it) (value it) ≡ twin k (after_write s (address it) (value it))
  unfolding after_write stored kind begun commanded prompt clearing
  twin_accepted s =
      each (λ a v. after_write (twin k s) a v ≡ twin k (after_write s a v))
      (λ _. refl) (λ _. refl) (λ _. refl) (λ _. refl) (λ _. refl) (λ _. refl) (λ _. refl) (λ _. refl)
      (twin_raises _) (twin_raises _) (twin_raises _)
      (λ c d. drawn_begun (twin k s) c d ∙ ap (twin k) (sym (drawn_begun s c d)))

-- a processor that is calm, and its twin with a good side
module _ (k : Side) (h : GoodSide k) where
  pub twin_calm : {s : State} → Calm s → Calm (twin k s)
  twin_calm {s} c =
      let g = relit_good k.lit s.regs (good_from s c.good).regs in
      let r : GoodRegs (beside k s.regs) = record { x = g.x; y = g.y; ctrl1 = g.ctrl1; ctrl2 = g.ctrl2; xlp = h.xlp } in
      let w = ready_work (beside k s.regs) k.vb s.work (ap ready c.idle) in
      record { good = good_to (twin k s) (record { regs = r; work = w; light_pen = h.light_pen }); idle = c.idle }

  -- an item is refused in both or in neither
  twin_number : (s : State) (a : ℕ) → Calm s → write_number (twin k s) a ≡ write_number s a
  unfolding write_number busy
  twin_number s a c = rw ((twin_calm c).good, c.good)

  pub twin_taking : (s : State) (it : Item) → Calm s → taking (twin k s) it ≡ twin k (taking s it)
  unfolding taking written answer
  twin_taking s it c =
      let n = twin_number s (address it) c in
      (λ j. cond (eqb (n j) 0) (twin_accepted k s it j) (twin k s))
      ∙ cond_ap (twin k) (eqb (write_number s (address it)) 0) (after_write s (address it) (value it)) s

  -- so does an item run to its end
  twin_done : (s : State) (it : Item) → Calm s → done (twin k s) it ≡ twin k (done s it)
  unfolding done
  twin_done s it c = rw (twin_taking s it c, twin_left k (taking s it)) (twin_after k (taking s it) (left (taking s it)))

  twin_item : (s : State) (t : Tables) (it : Item) → Calm s → item_dots (twin k s) t it ≡ item_dots s t it
  unfolding item_dots
  twin_item s t it c = rw (twin_taking s it c, twin_left k (taking s it)) (twin_dots k (taking s it) t (left (taking s it)))

  -- and a list
  pub twin_list : (s : State) (its : List Item) → Calm s → done_all (twin k s) its ≡ twin k (done_all s its)
  unfolding done_all
  twin_list s [] c = refl
  twin_list s (it ∷ its) c = ap (λ (t : State). done_all t its) (twin_done s it c) ∙ twin_list (done s it) its (done_calm s it c)

  pub twin_dots_list : (s : State) (t : Tables) (its : List Item) → Calm s → list_dots (twin k s) t its ≡ list_dots s t its
  unfolding list_dots
  twin_dots_list s t [] c = refl
  twin_dots_list s t (it ∷ its) c =
      ap₂ ◌++◌ (twin_item s t it c)
      (ap (λ (u : State). list_dots u t its) (twin_done s it c) ∙ twin_dots_list (done s it) t its (done_calm s it c))

-- the blank side, which any two states that differ in nothing else share: flag ready is high, so that it tells nothing
abbrev pub blank : Side
blank = record { lit = false; xlp = 0; ylp = 0; light_pen = Off; vb = false; flags = flags false false true }

pub blank_good : GoodSide blank
blank_good = record { xlp = refl; light_pen = refl }

abbrev pub core : State → State
core s = twin blank s

-- states that differ only there have the same dots
pub same_dots : {s u : State} → Calm s → Calm u → core u ≡ core s → (t : Tables) (its : List Item) → list_dots u t its ≡ list_dots s t its
same_dots {s} {u} c d e t its =
    sym (twin_dots_list blank blank_good u t its d)
    ∙ ap (λ (v : State). list_dots v t its) e
    ∙ twin_dots_list blank blank_good s t its c

-- and such are states whose registers differ in CTRL1 bit 1, XLP and YLP alone
bit_over : (b : Bool) (n : ℕ) → with_bit false 1 (with_bit b 1 n) ≡ with_bit false 1 n
bit_over true n = omega arith
bit_over false n = omega arith

pub alike : (lit : Bool) (s u : State) → u.format ≡ s.format → u.work ≡ s.work → Relit lit s.regs u.regs → core u ≡ core s
alike lit s u f w e =
    let bit = ap (λ (r : Regs). with_bit false 1 r.ctrl1) e ∙ bit_over lit s.regs.ctrl1 in
    λ j. let r = e j in
    state (f j) (regs (bit j) r.ctrl2 r.csize r.deltax r.deltay r.x r.y 0 0) (w j) Off false (flags false false true)

-- the side of a state, with CTRL1 bit 1 and flag ready as asked
abbrev pub side_of : Bool → Bool → State → Side
side_of lit ready s =
    record {
      lit = lit;
      xlp = s.regs.xlp;
      ylp = s.regs.ylp;
      light_pen = s.light_pen;
      vb = s.vb;
      flags = flags s.flags.light_pen s.flags.vb ready;
    }

pub side_good : (lit ready : Bool) (s : State) → bad s ≡ false → GoodSide (side_of lit ready s)
side_good lit ready s e = let g = good_from s e in record { xlp = g.regs.xlp; light_pen = g.light_pen }

-- a state is its own twin
pub own : (s : State) → twin (side_of (lights s.regs) s.flags.ready s) s ≡ s
unfolding lights
own s =
    let bit = bit_keep (lights s.regs) 1 s.regs.ctrl1 refl in
    λ j. with_flags (flags s.flags.light_pen s.flags.vb (or_self s.flags.ready j)) (with_regs (with_ctrl1 (bit j) s.regs) s)
