-- The list played again from where it began, with the pen or the eraser: it paints the same dots, and ends beside the first end.
-- Assumes nothing.
use mathlib.Core.Path.{◌≡◌, refl, sym, ap, ◌∙◌, subst}
use mathlib.Core.Bool.{Bool, true, false, ◌||◌}
use mathlib.Core.List.{List}
use Prim.Native.Nat.{ℕ}
use lib.ListN.{length}
use Rattle.picture.specs.Dot.{paint}
use Rattle.picture.proofs.Laws.{bit_same}
use Rattle.parts.specs.Format.{bytes}
use Rattle.rules.specs.Sequence.{ready}
use Rattle.rules.specs.State.{State, flags, state, with_lpck}
use Rattle.rules.specs.Figure.{Tables}
use Rattle.rules.specs.Cycles.{lights}
use Rattle.rules.specs.Refusals.{bad}
use Rattle.rules.specs.Calls.{Memory, memory}
use Rattle.rules.specs.Card.{Card, Event, played}
use Rattle.rules.specs.Working.Good.{GoodRegs}
use Rattle.rules.proofs.Laws.{good_from, good_to, ready_work}
use Rattle.lists.specs.Item.{Item}
use Rattle.lists.specs.Play.{Fit, Plays, alone, done_all, list_dots}
use Rattle.lists.specs.Erase.{PutBack, EndsWhole}
use Rattle.lists.proofs.Items.{Calm}
use Rattle.lists.proofs.Twin.{relit, Side, beside, twin, relit_good, twin_list, core, same_dots, alike, side_of, side_good, own}
use Rattle.lists.proofs.Played.{calm, ends_idle, ends_runs, ends_core, ends_tables, paints, ends_whole}
use Rattle.lists.proofs.Back.{back_on}
use Rattle.lists.proofs.Ways.{way_tables, way_along}

-- a second run, by a way that puts the registers back
module _ {lit : Bool} {c c₁ c₂ : Card} {its : List Item} (f : Fit c) (first : Plays c its c₁) (way : List Event)
    (back : PutBack lit c c₁ (played c₁ way)) (second : Plays (played c₁ way) its c₂) where
  abbrev d : Card
  d = played c₁ way

  abbrev format : d.state.format ≡ c.state.format
  format = (way_along c₁ way).format ∙ (ends_runs f first).kept.format

  abbrev tables : d.tables ≡ c.tables
  tables = way_tables c₁ way ∙ ends_tables f first

  -- its start is one that no call refuses with 1
  start_good : bad d.state ≡ false
  start_good =
      let g = relit_good lit c.state.regs (good_from c.state f.good).regs in
      let h = good_from c₁.state (ends_runs f first).good in
      let on = way_along c₁ way in
      let r : GoodRegs (with_lpck d.state.regs.xlp d.state.regs.ylp (relit lit c.state.regs)) =
      record { x = g.x; y = g.y; ctrl1 = g.ctrl1; ctrl2 = g.ctrl2; xlp = on.xlp h.regs.xlp } in
      good_to d.state
      (record {
        regs = subst GoodRegs (sym back.regs) r;
        work = ready_work d.state.regs d.state.vb d.state.work (ap ready back.idle);
        light_pen = on.light_pen h.light_pen;
      })

  -- and it fits
  pub fits_again : Fit d
  fits_again =
      record {
        good = start_good;
        idle = back.idle;
        picture = ap (λ (m : Memory). length m.picture) back.memory ∙ (ends_runs f first).picture ∙ ap bytes (sym format);
        table = ap (λ (t : Tables). length t.characters) tables ∙ f.table;
      }

  -- but for what no list looks at, both runs start alike and end alike
  same_start : core d.state ≡ core c.state
  same_start = alike lit c.state d.state format (back.idle ∙ sym f.idle) back.regs

  pub same_end : core c₂.state ≡ core c₁.state
  same_end = ends_core fits_again second ∙ ap (λ (u : State). done_all u its) same_start ∙ sym (ends_core f first)

  -- with the pen or the eraser as asked
  start_lights : lights d.state.regs ≡ lit
  unfolding lights
  start_lights = ap lights back.regs ∙ bit_same lit 1 c.state.regs.ctrl1

  pub end_lights : lights c₂.state.regs ≡ lit
  unfolding lights
  end_lights = rw (ends_runs fits_again second).kept.ctrl1 start_lights

  -- and the second run paints the dots of the first
  pub paints_again : c₂.memory ≡ memory (paint lit (list_dots c.state c.tables its) c₁.memory.picture)
  paints_again =
      paints fits_again second
      ∙ (λ j. memory (paint (start_lights j) (list_dots d.state (tables j) its) (back.memory j).picture))
      ∙ ap (λ (ds : List ℕ). memory (paint lit ds c₁.memory.picture)) (same_dots (calm f) (calm fits_again) same_start c.tables its)

-- flag ready, once high, is high at the end of a list
stays_raised : (s : State) (its : List Item) → Calm s
    → (s.flags.ready || (done_all s its).flags.ready) ≡ (done_all s its).flags.ready
stays_raised s its c =
    let lit = lights s.regs in
    let up = s.flags.ready in
    ap (λ (t : State). t.flags.ready)
    (sym (twin_list (side_of lit up s) (side_good lit up s c.good) s its c) ∙ ap (λ (t : State). done_all t its) (own s))

-- what is high wherever b is, and b wherever a is, is high wherever a is
raises : (r a b : Bool) → (r || b) ≡ r → (a || b) ≡ b → (r || a) ≡ r
raises true a b e m = refl
raises false true b e m = m ∙ e
raises false false b e m = refl

-- a second run where the way back touched nothing else
module _ {c c₁ c₂ : Card} {its : List Item} (f : Fit c) (first : Plays c its c₁) (way : List Event) (up : Bool)
    (e : played c₁ way ≡ back_on up c.state c₁) (second : Plays (played c₁ way) its c₂) where
  abbrev k : Side
  k = side_of false up c₁.state

  pub put_back : PutBack false c c₁ (played c₁ way)
  put_back = rw e (record { idle = ends_idle first; regs = refl; memory = refl })

  -- and nothing but grants came in between: the second run ends as the first but for CTRL1 bit 1 and flag ready
  last : alone first ≡ true → alone second ≡ true → (up || c₁.state.flags.ready) ≡ up → c₂.state ≡ twin k c₁.state
  last a b h =
      let s = c.state in
      let t = c₁.state in
      let one = ends_whole f first a in
      let high = raises up s.flags.ready t.flags.ready h (rw one (stays_raised s its (calm f))) in
      let work = ends_idle first ∙ sym f.idle in
      let again : _ ≡ twin k s = λ j. state ((ends_runs f first).kept.format j) (beside k s.regs) (work j) k.light_pen k.vb
      (flags k.flags.light_pen k.flags.vb (sym high j)) in
      ends_whole (fits_again f first way put_back second) second b
      ∙ ap (λ (u : State). done_all u its) (ap (λ (x : Card). x.state) e ∙ again)
      ∙ twin_list k (side_good false up t (ends_runs f first).good) s its (calm f)
      ∙ ap (twin k) (sym one)

  pub whole : (up || c₁.state.flags.ready) ≡ up → alone first ≡ true → alone second ≡ true
      → EndsWhole c₁.state c₂.state × (c₂.state.flags.ready ≡ up)
  whole h a b =
      rw (last a b h) (
        record { xlp = refl; ylp = refl; light_pen = refl; vb = refl; pen_flag = refl; vb_flag = refl },
        h,
      )
