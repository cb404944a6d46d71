-- What else holds of lists: what their dots do not depend on, the pen up, the list drawn once and twice; that every list can be
-- played, and what it does in a state that no call accepts.
-- Assumes nothing.
use mathlib.Core.Path.{◌≡◌, refl, sym, ap, ap₂, ◌∙◌}
use mathlib.Core.Bool.{Bool, true, false, cond}
use mathlib.Core.List.{List, [], ◌∷◌, ◌++◌}
use Prim.Native.Nat.{ℕ, zero, suc, ◌-◌, ◌*◌, min, ◌<◌}
use lib.ListN.{length}
use Rattle.picture.specs.Bit.{bit_at}
use Rattle.picture.specs.Dot.{dot_at, paint, gathered, has, Bytes}
use Rattle.picture.proofs.Laws.{paint_dot, paint_bytes, paint_length, repaint_dot, picture_ext}
use Rattle.motion.specs.declared.position.Spot.{Spot}
use Rattle.parts.specs.declared.format.Format.{Format}
use Rattle.parts.specs.Refusal.{lowest}
use Rattle.drawing.specs.Figure.{Figure}
use Rattle.drawing.specs.Run.{mark, dot_of, dots_from}
use Rattle.rules.specs.Sequence.{Work, Idle, Steps, Clear}
use Rattle.rules.specs.State.{Regs, State}
use Rattle.rules.specs.Figure.{Tables, figure, cycles, glyph}
use Rattle.rules.specs.Cycles.{pen_down, lights, tip, start, left, dots_of, dots}
use Rattle.rules.specs.Refusals.{bad, write_number, read_number, grant_number, vb_number, edge_number}
use Rattle.rules.specs.Calls.{Memory, memory, answer, outcome, written, read_out, granted, blanked, struck}
use Rattle.rules.specs.Card.{Card, Event, W, R, T, VB, LP, outcome_of, next, played}
use Rattle.rules.proofs.Laws.{clears}
use Rattle.lists.specs.Item.{Item, address, value}
use Rattle.lists.specs.Play.{Fit, wrote, Plays, end, call, item, taking, done, item_dots, list_dots}
use Rattle.lists.specs.Erase.{Relit, PutBack, draws_none, Ready}
use Rattle.lists.proofs.Items.{Kept, runs_out, Calm, taking_kept, done_kept, done_calm}
use Rattle.lists.proofs.Twin.{same_dots, alike}
use Rattle.lists.proofs.Played.{fits_then, takes, granted_runs, wrote_runs, calm, starts, paints}
use Rattle.lists.proofs.Ways.{way_still}
use Rattle.lists.proofs.Again.{paints_again}

-- every list can be played on a card that fits: grant after each write what is left
pub playable : (c : Card) (its : List Item) → Fit c → (d : Card) × Plays c its d
playable c [] f = (c, end f.idle)
playable c (it ∷ its) f =
    let w = wrote c it in
    let n = left w.state in
    let r = wrote_runs it (starts f) f.idle in
    let over = ap (λ (x : Card). x.state.work) (takes r n) ∙ runs_out w.state w.state.work refl r.kept.clear in
    let (d, rest) = playable (next w (T n)) its (fits_then (granted_runs r n) over) in
    (d, item it its f.idle (call (T n) refl rest))

-- a way without grants and clears leaves the memory, so PutBack's `memory` asks nothing of a host
pub still_way : (c : Card) (way : List Event) → c.state.work ≡ Idle → draws_none way ≡ true → (played c way).memory ≡ c.memory
still_way c way i h = way_still c way h (ap clears i)

-- the dots of a list depend neither on CTRL1 bit 1, XLP and YLP nor on the pen's sequence, VB and the flags
pub dots_blind : (lit : Bool) (s u : State) (t : Tables) (its : List Item) → bad s ≡ false → bad u ≡ false
    → s.work ≡ Idle → u.work ≡ Idle → u.format ≡ s.format → Relit lit s.regs u.regs → list_dots u t its ≡ list_dots s t its
dots_blind lit s u t its g h i k f r =
    same_dots (record { good = g; idle = i }) (record { good = h; idle = k }) (alike lit s u f (k ∙ sym i) r) t its

-- with pen and eraser up no cycle writes
no_dots : (i k : ℕ) → gathered (λ _. []) i k ≡ []
no_dots i zero = refl
no_dots i (suc k) = no_dots (suc i) k

up_from : (f : Format) (r : Regs) (a : Figure) (g : List ℕ) (at : Spot) (i k : ℕ) → pen_down r ≡ false
    → dots_from (tip f r) a g at i k ≡ []
unfolding dots_from dot_of mark tip
up_from f r a g at i k e = simp e (no_dots i k)

up_work : (f : Format) (r : Regs) (t : Tables) (n : ℕ) (w : Work) → pen_down r ≡ false → dots_of f r t n w ≡ []
unfolding dots_of
up_work f r t n Idle e = refl
up_work f r t n (Steps c p) e = up_from f r (figure r c) (glyph t c) (start r c p) p (min n (cycles r c - p)) e
up_work f r t n (Clear g o) e = refl

up_stays : (s t : State) → Kept s t → pen_down s.regs ≡ false → pen_down t.regs ≡ false
unfolding pen_down
up_stays s t k h = ap (bit_at 0) k.ctrl1 ∙ h

up_list : (s : State) (t : Tables) (its : List Item) → Calm s → pen_down s.regs ≡ false → list_dots s t its ≡ []
unfolding list_dots item_dots dots
up_list s t [] c h = refl
up_list s t (it ∷ its) c h =
    let w = taking s it in
    ap₂ ◌++◌
    (up_work w.format w.regs t (left w) w.work (up_stays s w (taking_kept s it c) h))
    (up_list (done s it) t its (done_calm s it c) (up_stays s (done s it) (done_kept s it c) h))

-- with CTRL1 bit 0 low a list writes no dot, and the picture stays
pub pen_up : {c d : Card} {its : List Item} → Fit c → pen_down c.state.regs ≡ false → Plays c its d
    → (list_dots c.state c.tables its ≡ []) × (d.memory ≡ c.memory)
pen_up {c} {its = its} f h plays =
    let none = up_list c.state c.tables its (calm f) h in
    (none, paints f plays ∙ rw none)

-- after a run with the pen the dots of the list are lit, and every other dot is as before
pub drawn : {c d : Card} {its : List Item} → Ready c → Plays c its d → (n : ℕ) → n < 8 * length c.memory.picture
    → dot_at d.memory.picture n ≡ cond (has n (list_dots c.state c.tables its)) true (dot_at c.memory.picture n)
drawn {c} {its = its} h plays n l =
    rw (paints h.fit plays, h.pen) (paint_dot true (list_dots c.state c.tables its) c.memory.picture n l)

-- what is painted twice is painted once
paint_once : (b : Bool) (ds p : List ℕ) → Bytes p → paint b ds (paint b ds p) ≡ paint b ds p
paint_once b ds p h =
    let one = paint_bytes b ds p h in
    let two = paint_bytes b ds (paint b ds p) one in
    let long = paint_length b ds (paint b ds p) in
    picture_ext (paint b ds (paint b ds p)) (paint b ds p) two one long
    (λ d l.
    let m : d < 8 * length p = rw (long, paint_length b ds p) at l in
    repaint_dot b b ds p d m ∙ sym (paint_dot b ds p d m))

-- a list played again, the registers and CTRL1 put back between, leaves the picture of playing it once
pub twice_once : {c c₁ c₂ : Card} {its : List Item} (way : List Event) → Fit c → Bytes c.memory.picture
    → Plays c its c₁ → PutBack (lights c.state.regs) c c₁ (played c₁ way) → Plays (played c₁ way) its c₂ → c₂.memory ≡ c₁.memory
twice_once {c} {its = its} way f h first back second =
    let lit = lights c.state.regs in
    let ds = list_dots c.state c.tables its in
    let one = paints f first in
    paints_again f first way back second
    ∙ ap (λ (m : Memory). memory (paint lit ds m.picture)) one
    ∙ ap memory (paint_once lit ds c.memory.picture h)
    ∙ sym one

-- in a state that every call refuses with 1 no event changes the card
refused_next : (c : Card) (e : Event) → bad c.state ≡ true → next c e ≡ c
unfolding next outcome_of written read_out granted blanked struck outcome answer
    write_number read_number grant_number vb_number edge_number lowest
refused_next c (W a v) b = rw b
refused_next c (R a) b = rw b
refused_next c (T n) b = rw b
refused_next c (VB level) b = rw b
refused_next c (LP h v) b = rw b

-- so a list does nothing there, whatever memories are lent
pub refused_list : {c d : Card} {its : List Item} → bad c.state ≡ true → Plays c its d → d ≡ c
unfolding wrote
refused_list b (end i) = refl
refused_list b (call {c = c} e n rest) = let same = refused_next c e b in refused_list (rw same b) rest ∙ same
refused_list b (item {c = c} it its i rest) =
    let same = refused_next c (W (address it) (value it)) b in
    refused_list (rw same b) rest ∙ same
