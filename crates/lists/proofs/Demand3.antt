-- Demand 3. Take any list of writes to X, Y, the deltas, CSIZE and CTRL2, coordinate resets, vectors and characters, each command
-- run to its end, from an idle processor. Run it with the pen; put those registers back; run it with the eraser. Every dot that
-- the list writes is then dark, every other dot is as at the start; so the picture is the first one exactly when no dot of the
-- list was lit before. Between the writes come grants, reads, VB levels and LPCK edges, as the host has them.
-- Assumes nothing.
use mathlib.Core.Path.{◌≡◌, ◌∙◌}
use mathlib.Core.Bool.{true, false, ◌||◌, or_comm, or_self, or_self_left}
use mathlib.Core.List.{List, ◌++◌}
use Rattle.picture.specs.Bit.{bit_at}
use Rattle.rules.specs.Card.{Card, Event, played}
use Rattle.rules.proofs.Laws.{good_from}
use Rattle.lists.specs.Item.{Item}
use Rattle.lists.specs.Play.{Plays, alone}
use Rattle.lists.specs.Erase.{back_to, backwards_to, eraser_by_write, eraser_by_command, PutBack, Ready, Erased, EndsAs, EndsWhole}
use Rattle.lists.proofs.Played.{ends_runs, ends_calm}
use Rattle.lists.proofs.Back.{back_by_write, back_by_command, eraser_then_back}
use Rattle.lists.proofs.Again.{put_back, whole}
use Rattle.lists.proofs.Erasing.{both_runs}

-- by any way of calls that puts the registers back and takes the eraser
pub erased : (c : Card) (its : List Item) → Ready c → {c₁ c₂ : Card} (way : List Event)
    → Plays c its c₁ → PutBack false c c₁ (played c₁ way) → Plays (played c₁ way) its c₂
    → Erased c its c₂.memory.picture × EndsAs c₁.state c₂.state
erased c its h way first back second = both_runs h first way back second

-- the eight registers written back, and the eraser taken by a write to CTRL1
pub erased_by_write : (c : Card) (its : List Item) → Ready c → {c₁ c₂ : Card}
    (first : Plays c its c₁) (second : Plays (played c₁ (back_to c.state ++ eraser_by_write c.state)) its c₂)
    → Erased c its c₂.memory.picture × EndsAs c₁.state c₂.state
    × (alone first ≡ true → alone second ≡ true
    → EndsWhole c₁.state c₂.state × (c₂.state.flags.ready ≡ c₁.state.flags.ready))
erased_by_write c its h {c₁} first second =
    let s = c.state in
    let way = back_to s ++ eraser_by_write s in
    let up = c₁.state.flags.ready in
    let e = back_by_write c₁ (ends_calm h.fit first) s (good_from s h.fit.good).regs in
    let both = erased c its h way first (put_back h.fit first way up e second) second in
    (both.0, both.1, whole h.fit first way up e second (or_self up))

-- by command 01: flag ready is high besides where CTRL1 bit 6 lets the command raise it
pub erased_by_command : (c : Card) (its : List Item) → Ready c → {c₁ c₂ : Card}
    (first : Plays c its c₁) (second : Plays (played c₁ (back_to c.state ++ eraser_by_command)) its c₂)
    → Erased c its c₂.memory.picture × EndsAs c₁.state c₂.state
    × (alone first ≡ true → alone second ≡ true
    → EndsWhole c₁.state c₂.state × (c₂.state.flags.ready ≡ (c₁.state.flags.ready || bit_at 6 c.state.regs.ctrl1)))
erased_by_command c its h {c₁} first second =
    let s = c.state in
    let way = back_to s ++ eraser_by_command in
    let a = c₁.state.flags.ready in
    let b = bit_at 6 s.regs.ctrl1 in
    let e = back_by_command c₁ (ends_calm h.fit first) s (good_from s h.fit.good).regs (ends_runs h.fit first).kept.ctrl1 in
    let both = erased c its h way first (put_back h.fit first way (a || b) e second) second in
    (both.0, both.1, whole h.fit first way (a || b) e second (or_comm (a || b) a ∙ or_self_left a b))

-- the eraser first, and then the registers in another order
pub erased_in_another_order : (c : Card) (its : List Item) → Ready c → {c₁ c₂ : Card}
    → Plays c its c₁ → Plays (played c₁ (eraser_by_command ++ backwards_to c.state)) its c₂
    → Erased c its c₂.memory.picture × EndsAs c₁.state c₂.state
erased_in_another_order c its h {c₁} first second =
    let s = c.state in
    let way = eraser_by_command ++ backwards_to s in
    let e = eraser_then_back c₁ (ends_calm h.fit first) s (good_from s h.fit.good).regs (ends_runs h.fit first).kept.ctrl1 in
    erased c its h way first (put_back h.fit first way _ e second) second
