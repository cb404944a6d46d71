-- A list played by the calls: where it ends and what it paints, however its cycles were split and whatever came in between.
-- Assumes nothing.
use mathlib.Core.Path.{◌≡◌, refl, sym, ap, ◌∙◌}
use mathlib.Core.Bool.{Bool, true, false, false≢true}
use mathlib.Core.List.{List, [], ◌∷◌, ◌++◌, append_assoc}
use Prim.Native.Nat.{ℕ}
use lib.ListN.{length}
use Rattle.picture.specs.Bit.{bit_at}
use Rattle.picture.specs.Dot.{paint}
use Rattle.picture.proofs.Laws.{paint_append, paint_length}
use Rattle.parts.specs.Format.{bytes}
use Rattle.rules.specs.Sequence.{Idle}
use Rattle.rules.specs.State.{State}
use Rattle.rules.specs.Cycles.{lights, left, dots, after}
use Rattle.rules.specs.Refusals.{bad}
use Rattle.rules.specs.Calls.{Memory, memory, Outcome}
use Rattle.rules.specs.Card.{Card, Event, W, R, T, VB, LP, outcome_of, next}
use Rattle.rules.proofs.Laws.{idle_still, after_good, read_good, vb_good, edge_good, grant_taken, clears, vb_memory}
use Rattle.lists.specs.Item.{Item}
use Rattle.lists.specs.Play.{Fit, wrote, writes_none, Plays, end, call, item, alone, taking, done, item_dots, done_all, list_dots}
use Rattle.lists.proofs.Splits.{with_dots, accepted, onward}
use Rattle.lists.proofs.Items.{Kept, keeps, and_then, Calm, after_kept, taking_kept, taking_good}
use Rattle.lists.proofs.Twin.{blank, blank_good, core, twin_dots, twin_after, twin_taking, twin_dots_list}
use Rattle.lists.proofs.Between.{Aside, aside_kept, read_aside, vb_aside, edge_aside}

-- the card in another state, its memories as they were
abbrev pub with_state : State → Card → Card
with_state s c = record { state = s; memory = c.memory; tables = c.tables }

-- a card once its command is run to its end and a list is played: the state that this leads to, and the picture painted with
-- the dots of both
abbrev pub left_by : Bool → List Item → Card → Card
left_by lit its c =
    let s = c.state in
    let e = after s (left s) in
    with_dots (done_all e its) lit (dots s c.tables (left s) ++ list_dots e c.tables its) c

-- from an idle processor it is the list alone
pub idle_leads : (lit : Bool) (its : List Item) (c : Card) → c.state.work ≡ Idle
    → left_by lit its c ≡ with_dots (done_all c.state its) lit (list_dots c.state c.tables its) c
idle_leads lit its c i =
    let s = c.state in
    let still = idle_still s i in
    λ j. with_dots (done_all (still.stays (left s) j) its) lit (still.blank c.tables (left s) j ++ list_dots (still.stays (left s) j) c.tables its) c

-- granted cycles lead to the same card
grant_leads : (lit : Bool) (its : List Item) (c : Card) (n : ℕ)
    → left_by lit its (with_dots (after c.state n) lit (dots c.state c.tables n) c) ≡ left_by lit its c
grant_leads lit its c n =
    let s = c.state in
    let t = c.tables in
    let a = after s n in
    let e = after a (left a) in
    let on = onward s t n in
    let first = dots s t n in
    let rest = dots a t (left a) in
    let more = list_dots e t its in
    ap (λ (p : List ℕ). record { state = done_all e its; memory = memory p; tables = t })
    (sym (paint_append lit first (rest ++ more) c.memory.picture)
    ∙ ap (λ (ds : List ℕ). paint lit ds c.memory.picture) (sym (append_assoc first rest more)))
    ∙ (λ j. with_dots (done_all (on.0 j) its) lit (on.1 j ++ list_dots (on.0 j) t its) c)

-- and so does the first item of a list, written while the processor is idle
item_leads : (lit : Bool) (it : Item) (its : List Item) (c : Card) → c.state.work ≡ Idle
    → left_by lit its (with_state (taking c.state it) c) ≡ left_by lit (it ∷ its) c
unfolding done_all list_dots done item_dots
item_leads lit it its c i = sym (idle_leads lit (it ∷ its) c i)

-- a card on which a list that began in state s goes on: no call refuses its state with 1, no clear runs, the memories fit
pub record Runs (s : State) (c : Card) : Type 0 where
  pub good : bad c.state ≡ false
  pub kept : Kept s c.state
  pub picture : length c.memory.picture ≡ bytes s.format
  pub table : length c.tables.characters ≡ 480

-- so it is in the state that a call leaves, with some dots painted or none
goes_on : {s t : State} {c : Card} (lit : Bool) (ds : List ℕ) → Runs s c → bad t ≡ false → Kept c.state t → Runs s (with_dots t lit ds c)
goes_on {c = c} lit ds r g k =
    record {
      good = g;
      kept = and_then r.kept k;
      picture = paint_length lit ds c.memory.picture ∙ r.picture;
      table = r.table;
    }

-- a grant is taken
module _ {s : State} {c : Card} (r : Runs s c) (n : ℕ) where
  pub takes : next c (T n) ≡ with_dots (after c.state n) (lights s.regs) (dots c.state c.tables n) c
  unfolding next outcome_of lights
  takes =
      let u = c.state in
      let fits = r.picture ∙ ap bytes (sym r.kept.format) in
      let zero = accepted u c.memory.picture c.tables r.good fits r.table in
      ap (λ (o : Outcome). record { state = o.answer.state; memory = o.memory; tables = c.tables }) (grant_taken u n c.memory c.tables zero)
      ∙ (λ j. with_dots (after u n) (bit_at 1 (r.kept.ctrl1 j)) (dots u c.tables n) c)

  pub granted_runs : Runs s (next c (T n))
  granted_runs =
      let u = c.state in
      rw takes (goes_on (lights s.regs) (dots u c.tables n) r (after_good u n r.good) (after_kept u n r.kept.clear))

-- and an item is written
pub wrote_runs : {s : State} {c : Card} (it : Item) → Runs s c → c.state.work ≡ Idle → Runs s (wrote c it)
unfolding wrote next outcome_of taking
wrote_runs {c = c} it r i =
    let u = c.state in
    let calm : Calm u = record { good = r.good; idle = i } in
    goes_on false [] r (taking_good u it calm) (taking_kept u it calm)

-- the card without what no list looks at
abbrev pub bare : Card → Card
bare c = with_state (core c.state) c

-- card d, after a call on c, leads to the same card
record LeadsOn (s : State) (c d : Card) : Type 0 where
  runs : Runs s d
  same : (its : List Item) → left_by (lights s.regs) its (bare d) ≡ left_by (lights s.regs) its (bare c)

-- it does where the call changed only what no list looks at
besides : {s : State} {c : Card} (t : State) (m : Memory) → Runs s c → bad t ≡ false → Aside c.state t → m ≡ c.memory
    → LeadsOn s c (record { state = t; memory = m; tables = c.tables })
besides {s} {c} t m r g a e =
    record {
      runs = rw e (goes_on false [] r g (aside_kept r.kept.clear a));
      same = λ its. ap (left_by (lights s.regs) its) (λ j. record { state = a.same j; memory = e j; tables = c.tables });
    }

-- and so it does after every call that writes no register
leads_on : {s : State} {c : Card} → Runs s c → (e : Event) → writes_none e ≡ true → LeadsOn s c (next c e)
unfolding next outcome_of
leads_on r (W a v) n = absurd (false≢true n)
leads_on {c = c} r (R a) n = let u = c.state in besides _ _ r (read_good u a r.good) (read_aside u a) refl
leads_on {c = c} r (LP h v) n = let u = c.state in besides _ _ r (edge_good u h v r.good) (edge_aside u h v) refl
leads_on {c = c} r (VB l) n =
    let u = c.state in
    let m = c.memory in
    let clear = r.kept.clear in
    besides _ _ r (vb_good u l m r.good) (vb_aside u clear l m) (vb_memory u clear l m)
leads_on {s} {c} r (T n) e =
    let u = c.state in
    let lit = lights s.regs in
    record {
      runs = granted_runs r n;
      same = λ its.
          ap (λ (d : Card). left_by lit its (bare d)) (takes r n)
          ∙ (λ j. left_by lit its (with_dots (sym (twin_after blank u n) j) lit (sym (twin_dots blank u c.tables n) j) c))
          ∙ grant_leads lit its (bare c) n;
    }

-- a list that is played ends on the card that it leads to, up to what no list looks at
leads : {s : State} {c d : Card} {its : List Item} → Runs s c → Plays c its d
    → (bare d ≡ left_by (lights s.regs) its (bare c)) × Runs s d
unfolding wrote next outcome_of taking done_all list_dots
leads {s} r (end {c = c} i) = (sym (idle_leads (lights s.regs) [] (bare c) i), r)
leads {its = its} r (call e n rest) =
    let on = leads_on r e n in
    let l = leads on.runs rest in
    (l.0 ∙ on.same its, l.1)
leads {s} r (item {c = c} it its i rest) =
    let u = c.state in
    let lit = lights s.regs in
    let calm : Calm u = record { good = r.good; idle = i } in
    let l = leads (wrote_runs it r i) rest in
    let taken = sym (twin_taking blank blank_good u it calm) in
    (l.0 ∙ ap (λ (v : State). left_by lit its (with_state v c)) taken ∙ item_leads lit it its (bare c) i, l.1)

-- and wholly where nothing but grants comes in between
leads_whole : {s : State} {c d : Card} {its : List Item} → Runs s c → (p : Plays c its d) → alone p ≡ true
    → d ≡ left_by (lights s.regs) its c
unfolding wrote next outcome_of taking done_all list_dots
leads_whole {s} r (end {c = c} i) a = sym (idle_leads (lights s.regs) [] c i)
leads_whole r (call (W _ _) n rest) a = absurd (false≢true a)
leads_whole r (call (R _) n rest) a = absurd (false≢true a)
leads_whole r (call (VB _) n rest) a = absurd (false≢true a)
leads_whole r (call (LP _ _) n rest) a = absurd (false≢true a)
leads_whole {s} {its = its} r (call {c = c} (T n) _ rest) a =
    let lit = lights s.regs in
    leads_whole (granted_runs r n) rest a ∙ ap (left_by lit its) (takes r n) ∙ grant_leads lit its c n
leads_whole {s} r (item {c = c} it its i rest) a =
    leads_whole (wrote_runs it r i) rest a ∙ item_leads (lights s.regs) it its c i

-- it ends idle
pub ends_idle : {c d : Card} {its : List Item} → Plays c its d → d.state.work ≡ Idle
ends_idle (end i) = i
ends_idle (call e n rest) = ends_idle rest
ends_idle (item it its i rest) = ends_idle rest

-- a card that fits is calm, and a list can begin on it
pub calm : {c : Card} → Fit c → Calm c.state
calm f = record { good = f.good; idle = f.idle }

pub starts : {c : Card} → Fit c → Runs c.state c
starts f = record { good = f.good; kept = keeps refl refl (ap clears f.idle); picture = f.picture; table = f.table }

-- and where it is idle again the next one can
pub fits_then : {s : State} {c : Card} → Runs s c → c.state.work ≡ Idle → Fit c
fits_then r i = record { good = r.good; idle = i; picture = r.picture ∙ ap bytes (sym r.kept.format); table = r.table }

-- from a card that fits to the end of a list
module _ {c d : Card} {its : List Item} (f : Fit c) (plays : Plays c its d) where
  abbrev ran : bare d ≡ with_dots (done_all (core c.state) its) (lights c.state.regs) (list_dots (core c.state) c.tables its) c
  ran = (leads (starts f) plays).0 ∙ idle_leads (lights c.state.regs) its (bare c) f.idle

  pub ends_runs : Runs c.state d
  ends_runs = (leads (starts f) plays).1

  pub ends_calm : Calm d.state
  ends_calm = record { good = ends_runs.good; idle = ends_idle plays }

  pub ends_core : core d.state ≡ done_all (core c.state) its
  ends_core = ap (λ (x : Card). x.state) ran

  pub ends_tables : d.tables ≡ c.tables
  ends_tables = ap (λ (x : Card). x.tables) ran

  -- the picture is painted with the dots of the list
  pub paints : d.memory ≡ memory (paint (lights c.state.regs) (list_dots c.state c.tables its) c.memory.picture)
  paints =
      ap (λ (x : Card). x.memory) ran
      ∙ ap (λ (ds : List ℕ). memory (paint (lights c.state.regs) ds c.memory.picture))
      (twin_dots_list blank blank_good c.state c.tables its (calm f))

  pub ends_whole : alone plays ≡ true → d.state ≡ done_all c.state its
  ends_whole a =
      let lit = lights c.state.regs in
      ap (λ (x : Card). x.state) (leads_whole (starts f) plays a ∙ idle_leads lit its c f.idle)
