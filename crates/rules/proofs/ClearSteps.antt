-- A clear that runs, call by call: what leaves it, what moves its frames, what ends it.
-- Assumes nothing.
use mathlib.Core.Path.{◌≡◌, refl, sym, ap, ◌∙◌}
use mathlib.Core.Logic.{◌⊎◌, inl, inr}
use mathlib.Core.Bool.{Bool, true, false, cond, ◌&&◌, ◌||◌, not, or-true}
use mathlib.Core.List.{List}
use Prim.Native.Nat.{ℕ, ◌+◌, ◌-◌, ◌<◌}
use lib.ListN.{length}
use borrow.Author.Tests.{eq-eqb}
use Rattle.basis.proofs.Cases.{or_cases}
use Rattle.picture.specs.Bit.{digit, bit_at}
use Rattle.picture.specs.Dot.{whole}
use Rattle.parts.specs.Format.{bytes, frames}
use Rattle.parts.specs.Refusal.{lowest}
use Rattle.rules.specs.Sequence.{Frames, Idle, Clear, work_rises, clear_lights}
use Rattle.rules.specs.State.{State, with_work, vb_raises, ready_raises}
use Rattle.rules.specs.Cycles.{lights}
use Rattle.rules.specs.Blanking.{fallen, ends_clear, clear_ends, risen, after_vb, picture_vb}
use Rattle.rules.specs.Refusals.{bad, wrong_picture, vb_number}
use Rattle.rules.specs.Calls.{memory, answer, outcome, blanked}
use Rattle.rules.specs.Card.{Card, R, T, VB, LP, outcome_of, next}
use Rattle.rules.specs.Frames.{rises_in, Come}
use Rattle.rules.proofs.Good.{read_good, grant_good, vb_good, edge_good}
use Rattle.rules.proofs.Split.{clear_still}
use Rattle.rules.proofs.Alike.{Alike, read_alike, edge_alike, grant_alike, grant_memory, pen_alike}

-- a clear on card c, inside a frame or not, after so many frames
pub record Runs (c : Card) (fill inside : Bool) (over : ℕ) : Type 0 where
  pub good : bad c.state ≡ false
  pub fits : length c.memory.picture ≡ bytes c.state.format
  pub work : c.state.work ≡ Clear fill (record { inside = inside; over = over })
  pub left : over < frames c.state.format

-- card d, on which it goes on
pub record Goes (c d : Card) : Type 0 where
  pub format : d.state.format ≡ c.state.format
  pub lit : clear_lights d.state.work (lights d.state.regs) ≡ clear_lights c.state.work (lights c.state.regs)
  pub mask : bit_at 6 d.state.regs.ctrl1 ≡ bit_at 6 c.state.regs.ctrl1
  pub memory : d.memory ≡ c.memory
  pub flag : d.state.flags.ready ≡ true → c.state.flags.ready ≡ true

goes_by : {c d : Card} (fill : Bool) {i j : Frames} → c.state.work ≡ Clear fill i → d.state.work ≡ Clear fill j
    → d.state.format ≡ c.state.format → d.state.regs.ctrl1 ≡ c.state.regs.ctrl1 → d.memory ≡ c.memory
    → (d.state.flags.ready ≡ true → c.state.flags.ready ≡ true) → Goes c d
unfolding lights
goes_by fill w v f c1 m g =
    record { format = f; lit = rw (w, v, c1) refl; mask = ap (bit_at 6) c1; memory = m; flag = g }

-- what comes of it from d on comes of it from c on
pub before : {c d e : Card} {n : ℕ} → Goes c d → Come d e n → Come c e n
before {c} {d} {n = n} g h =
    record {
      ready = rw g.format at h.ready;
      picture = rw (g.format, g.lit, g.memory) at h.picture;
      flag = λ x. raised (or_cases _ _ (rw (g.format, g.mask) at (h.flag x)));
    }
  where
    raised : {b : Bool} → (d.state.flags.ready ≡ true) ⊎ (b ≡ true) → (c.state.flags.ready || b) ≡ true
    raised (inl e) = rw (g.flag e) refl
    raised {b} (inr e) = rw e (or-true c.state.flags.ready)

-- a frame that is over counts; those that begin in a row of levels do, but where VB is low outside a frame the first rise ends none
abbrev pub counted : Bool → ℕ → Bool → List Bool → ℕ
counted inside over vb levels = over + (rises_in vb levels - digit (not vb && not inside))

-- VB's level is taken
vb_next : (c : Card) (level : Bool) {fill inside : Bool} {over : ℕ} → Runs c fill inside over
    → next c (VB level) ≡ record { state = after_vb c.state level; memory = memory (picture_vb c.state level c.memory.picture); tables = c.tables }
unfolding next outcome_of blanked outcome answer vb_number lowest wrong_picture
vb_next c level r = rw (r.good, eq-eqb _ _ r.fits) refl

-- a rise that does not end a clear, and one that does
record Rises (s t : State) : Type 0 where
  pub work : t.work ≡ work_rises s.work
  pub vb : t.vb ≡ true
  pub format : t.format ≡ s.format
  pub ctrl1 : t.regs.ctrl1 ≡ s.regs.ctrl1
  pub flag : t.flags.ready ≡ true → s.flags.ready ≡ true

rise_goes : (s : State) → ends_clear s ≡ false → Rises s (risen s)
unfolding risen vb_raises clear_ends
rise_goes s e =
    let a = pen_alike (with_work (work_rises s.work) s) in
    rw e (record { work = a.work; vb = refl; format = a.format; ctrl1 = a.ctrl1; flag = a.flag })

pub record Ends (s t : State) : Type 0 where
  pub work : t.work ≡ Idle
  pub flag : t.flags.ready ≡ true → (s.flags.ready || bit_at 6 s.regs.ctrl1) ≡ true

rise_ends : (s : State) → ends_clear s ≡ true → Ends s (risen s)
unfolding risen vb_raises clear_ends ready_raises
rise_ends s e =
    let a = pen_alike (ready_raises (with_work Idle s)) in
    rw e (record { work = a.work; flag = a.flag })

-- by calls that change nothing of it
module _ {c d : Card} {fill inside : Bool} {over : ℕ} (r : Runs c fill inside over) (a : Alike c.state d.state) (m : d.memory ≡ c.memory) where
  alike_goes : Goes c d
  alike_goes = goes_by fill r.work (a.work ∙ r.work) a.format a.ctrl1 m a.flag

  alike_runs : bad d.state ≡ false → Runs d fill inside over
  alike_runs g = record { good = g; fits = rw (m, a.format) r.fits; work = a.work ∙ r.work; left = rw a.format r.left }

-- the present level
level_same : (s : State) (level : Bool) → s.vb ≡ level → after_vb s level ≡ s
unfolding after_vb
level_same s true v = rw v refl
level_same s false v = rw v refl

picture_same : (s : State) (level : Bool) (p : List ℕ) → s.vb ≡ level → picture_vb s level p ≡ p
unfolding picture_vb
picture_same s true p v = rw v refl
picture_same s false p v = rw v refl

pub present : (c : Card) (level : Bool) {fill inside : Bool} {over : ℕ} → Runs c fill inside over → c.state.vb ≡ level → next c (VB level) ≡ c
present c level r v = vb_next c level r ∙ λ j. record { state = level_same c.state level v j; memory = memory (picture_same c.state level c.memory.picture v j); tables = c.tables }

-- no call makes the state one that is refused
vb_good_next : (c : Card) (level : Bool) → bad c.state ≡ false → bad (next c (VB level)).state ≡ false
unfolding next outcome_of
vb_good_next c level g = vb_good c.state level c.memory g

vb_keeps : (c : Card) (level : Bool) {fill inside : Bool} {over : ℕ} → Runs c fill inside over → bad (after_vb c.state level) ≡ false
vb_keeps c level r = ap (λ (d : Card). bad d.state) (sym (vb_next c level r)) ∙ vb_good_next c level r.good

-- a fall, and a rise that ends no clear
module _ (c : Card) {fill inside : Bool} {over : ℕ} (r : Runs c fill inside over) where
  pub record Turns (d : Card) (in' : Bool) (over' : ℕ) (vb : Bool) : Type 0 where
    pub goes : Goes c d
    pub runs : Runs d fill in' over'
    pub level : d.state.vb ≡ vb

  pub falls_to : c.state.vb ≡ true → Turns (next c (VB false)) true over false
  unfolding after_vb picture_vb fallen
  falls_to v =
      let work : (after_vb c.state false).work ≡ Clear fill (record { inside = true; over = over }) = rw (v, r.work) refl in
      rw (vb_next c false r) (record {
        goes = goes_by fill r.work work (rw v refl) (rw v refl) (rw v refl) (rw v (λ x. x));
        runs = record { good = vb_keeps c false r; fits = rw v r.fits; work = work; left = rw v r.left };
        level = rw v refl;
      })

  -- a rise takes the state to `risen`, and the picture whole where it ends the clear
  rise_next : c.state.vb ≡ false → next c (VB true)
      ≡ record {
        state = risen c.state;
        memory = memory (cond (ends_clear c.state) (whole (clear_lights c.state.work (lights c.state.regs)) c.memory.picture) c.memory.picture);
        tables = c.tables;
      }
  unfolding after_vb picture_vb
  rise_next v =
      vb_next c true r
      ∙ ap (λ (b : Bool). record {
        state = cond b c.state (risen c.state);
        memory = memory (cond (not b && true && ends_clear c.state) (whole (clear_lights c.state.work (lights c.state.regs)) c.memory.picture) c.memory.picture);
        tables = c.tables;
      }) v

  rise_keeps : c.state.vb ≡ false → bad (risen c.state) ≡ false
  rise_keeps v = ap (λ (d : Card). bad d.state) (sym (rise_next v)) ∙ vb_good_next c true r.good

  pub rises_to : c.state.vb ≡ false → ends_clear c.state ≡ false → cond inside (over + 1) over < frames c.state.format
      → Turns (next c (VB true)) false (cond inside (over + 1) over) true
  rises_to v e h =
      let up = rise_goes c.state e in
      let work : (risen c.state).work ≡ Clear fill (record { inside = false; over = cond inside (over + 1) over }) = up.work ∙ ap work_rises r.work in
      rw (rise_next v, e) (record {
        goes = goes_by fill r.work work up.format up.ctrl1 refl up.flag;
        runs = record { good = rise_keeps v; fits = rw up.format r.fits; work = work; left = rw up.format h };
        level = up.vb;
      })

  -- a rise that ends it
  pub ends_to : c.state.vb ≡ false → ends_clear c.state ≡ true → Ends c.state (next c (VB true)).state
      × ((next c (VB true)).memory.picture ≡ whole (clear_lights c.state.work (lights c.state.regs)) c.memory.picture)
  ends_to v e = rw (rise_next v, e) (rise_ends c.state e, refl)

-- a read, a grant and an edge
module _ (c : Card) {fill inside : Bool} {over : ℕ} (r : Runs c fill inside over) {vb : Bool} (v : c.state.vb ≡ vb) where
  stays : (d : Card) → Alike c.state d.state → d.memory ≡ c.memory → bad d.state ≡ false → Turns c r d inside over vb
  stays d a m g = record { goes = alike_goes r a m; runs = alike_runs r a m g; level = a.vb ∙ v }

  pub read_turns : (a : ℕ) → Turns c r (next c (R a)) inside over vb
  unfolding next outcome_of
  read_turns a = stays (next c (R a)) (read_alike c.state a) refl (read_good c.state a r.good)

  pub grant_turns : (n : ℕ) → Turns c r (next c (T n)) inside over vb
  unfolding next outcome_of
  grant_turns n =
      let still = clear_still c.state fill (record { inside = inside; over = over }) r.work in
      stays (next c (T n)) (grant_alike c.state n c.memory c.tables still) (grant_memory c.state n c.memory c.tables still)
      (grant_good c.state n c.memory c.tables r.good)

  pub edge_turns : (x y : ℕ) → Turns c r (next c (LP x y)) inside over vb
  unfolding next outcome_of
  edge_turns x y = stays (next c (LP x y)) (edge_alike c.state x y) refl (edge_good c.state x y r.good)
