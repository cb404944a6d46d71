-- From the two runs to demand 3's promise: the dots, the picture, and how the second run ends beside the first.
-- Assumes nothing.
use mathlib.Core.Path.{◌≡◌, sym, ap, ◌∙◌}
use mathlib.Core.Bool.{true, false}
use mathlib.Core.List.{List}
use Prim.Native.Nat.{ℕ}
use Rattle.picture.specs.Bit.{with_bit}
use Rattle.picture.specs.Dot.{paint}
use Rattle.picture.proofs.Laws.{bit_keep, repaint_dot, restored, was_dark}
use Rattle.rules.specs.State.{State, regs}
use Rattle.rules.specs.Cycles.{lights}
use Rattle.rules.specs.Calls.{Memory, memory}
use Rattle.rules.specs.Card.{Card, Event, played}
use Rattle.lists.specs.Item.{Item}
use Rattle.lists.specs.Play.{Plays, list_dots}
use Rattle.lists.specs.Erase.{PutBack, Ready, Erased, EndsAs}
use Rattle.lists.proofs.Twin.{core}
use Rattle.lists.proofs.Played.{paints}
use Rattle.lists.proofs.Again.{same_end, end_lights, paints_again}

-- lit and then darkened
pub erases : (c : Card) (its : List Item) → Ready c → {q : List ℕ}
    → q ≡ paint false (list_dots c.state c.tables its) (paint true (list_dots c.state c.tables its) c.memory.picture) → Erased c its q
erases c its h e =
    let p = c.memory.picture in
    let ds = list_dots c.state c.tables its in
    rw e
    (record {
      dark = λ d l t. repaint_dot true false ds p d l ∙ rw t;
      others = λ d l t. repaint_dot true false ds p d l ∙ rw t;
      first = restored ds p h.dots;
      only = was_dark ds p;
    })

-- alike but for what no list looks at, CTRL1 bit 1 low
ends_as : (a b : State) → core b ≡ core a → lights b.regs ≡ false → EndsAs a b
unfolding lights
ends_as a b e low =
    let bit : b.regs.ctrl1 ≡ with_bit false 1 a.regs.ctrl1 =
    sym (bit_keep false 1 b.regs.ctrl1 low) ∙ ap (λ (s : State). s.regs.ctrl1) e in
    record {
      regs = λ j. let r = (e j).regs in regs (bit j) r.ctrl2 r.csize r.deltax r.deltay r.x r.y b.regs.xlp b.regs.ylp;
      format = ap (λ (s : State). s.format) e;
      work = ap (λ (s : State). s.work) e;
    }

-- both runs, the second with the eraser
pub both_runs : {c c₁ c₂ : Card} {its : List Item} → Ready c → (first : Plays c its c₁) (way : List Event)
    → PutBack false c c₁ (played c₁ way) → Plays (played c₁ way) its c₂ → Erased c its c₂.memory.picture × EndsAs c₁.state c₂.state
both_runs {c} {c₁} {c₂} {its} h first way back second =
    let ds = list_dots c.state c.tables its in
    let drawn = rw h.pen at (paints h.fit first) in
    let both = paints_again h.fit first way back second ∙ ap (λ (m : Memory). memory (paint false ds m.picture)) drawn in (
      erases c its h (ap (λ (m : Memory). m.picture) both),
      ends_as c₁.state c₂.state (same_end h.fit first way back second) (end_lights h.fit first way back second),
    )
