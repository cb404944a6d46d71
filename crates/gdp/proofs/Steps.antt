-- A grant as the code goes about it is the definition's grant.
-- Assumes nothing.
use mathlib.Core.Path.{◌≡◌, refl, sym, ap, ◌∙◌}
use mathlib.Core.Bool.{Bool, true, false, cond, not, ◌&&◌, ◌||◌, and-false, or-false}
use mathlib.Core.List.{List, []}
use Prim.Native.Nat.{ℕ, zero, suc, ◌+◌, ◌-◌, ◌≤◌, ◌<◌, min}
use native.Mathlib.Omega.{arith}
use lib.Dec.{eqb, ltb, leb}
use Rattle.std.proofs.Common.{Result, Err}
use lib.ListN.{length}
use borrow.Author.Tests.{eqb-true, eqb-false, eq-eqb, ltb-true, ltb-false, lt-ltb, le-ltb, leb-true, leb-false, le-leb, lt-leb}
use Rattle.basis.proofs.Cases.{cond_case, or_parts, and_parts}
use Rattle.picture.specs.Bit.{bit_at}
use Rattle.picture.specs.Screen.{Screen}
use Rattle.motion.specs.declared.position.Spot.{Spot}
use Rattle.motion.specs.Position.{ahead, behind, spot, moved, moved_back}
use Rattle.motion.specs.declared.vector.Line.{Line}
use Rattle.motion.specs.Vector.{line_of}
use Rattle.parts.specs.declared.command.Kind.{Kind}
use Rattle.parts.specs.declared.command.Kind.TheVariants.{NoCycle, OneCycle, Vector}
use Rattle.parts.specs.Format.{bytes}
use Rattle.parts.specs.Command.{kind, lettering}
use Rattle.parts.specs.declared.refusal.Refusal.{Refusal}
use Rattle.parts.specs.declared.refusal.Refusal.TheVariants.{BadState}
use Rattle.parts.specs.Refusal.{lowest, refusal_number}
use Rattle.parts.proofs.Laws.{letter_codes, screen}
use Rattle.drawing.specs.declared.tip.Tip.{Tip}
use Rattle.drawing.specs.Figure.{Figure, Stroke, Pause, cycles_of, way, end_way, writes}
use Rattle.drawing.specs.Run.{start_of, place_of, rest_of, mark, dot_of, dots_from, Ran}
use Rattle.drawing.specs.Working.Cycle.{Granted}
use Rattle.rules.specs.Sequence.{Frames, Work, Idle, Steps, Clear}
use Rattle.rules.specs.State.{State, with_place, with_regs, with_work, ready_raises}
use Rattle.rules.specs.Figure.{Tables, tables, figure_by, figure, cycles, glyph}
use Rattle.rules.specs.Cycles.{cyclic, tip, here, start, left_of, left, used, dots_of, dots, rested, after_of, after}
use Rattle.rules.specs.Refusals.{bad_regs, wrong_picture, wrong_table}
use Rattle.gdp.specs.declared.state.Gdp.{Gdp}
use Rattle.gdp.specs.declared.state.Reply.{Reply}
use Rattle.gdp.specs.declared.state.Answer.{Answer}
use Rattle.gdp.specs.Flat.{work_in, flat, named, format_of, regs_of, frames_in, state_of}
use Rattle.gdp.specs.Calls.{as_answer, Grants}
use Rattle.gdp.specs.Working.Check.{stray, bad_step}
use Rattle.gdp.specs.Working.Steps.{run_of, memory_number, HasTable, flat_answer, rests_at}
use Rattle.gdp.proofs.Flaws.{steps_run, others_run, steps_flawed, others_sound}
use Rattle.gdp.proofs.Told.{grant_code, grant_refused, grant_accepted, grant_memories}

-- cycles past the last leave X and Y where the last does
rest_past : (f : Figure) (at : Spot) (i j : ℕ) → cycles_of f ≤ i → cycles_of f ≤ j → rest_of f at i ≡ rest_of f at j
unfolding rest_of
rest_past f at i j h l = rw (le-ltb i (cycles_of f) h, le-ltb j (cycles_of f) l)

-- a command of code c that draws f and has used p of its cycles, granted n: the cycles that it uses
module _ (s : State) (c p n : ℕ) (f : Figure) (is : figure s.regs c ≡ f) (runs : s.work ≡ Steps c p) where
  used_steps : used s n ≡ min n (cycles_of f - p)
  unfolding used left left_of cycles
  used_steps = ap (λ (w : Work). min n (left_of s.regs w)) runs ∙ rw is

  -- the dots that they write
  dots_steps : (t : Tables)
      → dots s t n ≡ dots_from (tip s.format s.regs) f (glyph t c) (start_of f p (here s.regs)) p (min n (cycles_of f - p))
  unfolding dots dots_of start cycles
  dots_steps t = ap (dots_of s.format s.regs t n) runs ∙ rw is

  -- and the state after them, with X and Y at a place
  abbrev stands : Spot → State
  stands at = with_regs (with_place at s.regs) s

  after_steps : {at : Spot} → at ≡ rest_of f (start_of f p (here s.regs)) (p + n)
      → after s n ≡ cond (ltb (p + n) (cycles_of f)) (with_work (Steps c (p + n)) (stands at)) (ready_raises (with_work Idle (stands at)))
  unfolding after after_of rested start cycles
  after_steps e = ap (after_of s n) runs ∙ rw (is, e)

  -- the code's answer after k cycles of m that were left is the definition's
  step_rests : p < cycles_of f → {k m : ℕ} → k ≡ min n (cycles_of f - p) → m ≡ cycles_of f - p
      → {at : Spot} → at ≡ rest_of f (start_of f p (here s.regs)) (p + k)
      → rests_at s c p k m at ≡ record { number = 0; value = used s n; state = after s n }
  unfolding rests_at
  step_rests some {k} {m} ek em {at} e =
      let value : k ≡ used s n = ek ∙ sym used_steps in
      let state : cond (eqb k m) (ready_raises (with_work Idle (stands at))) (with_work (Steps c (p + k)) (stands at)) ≡ after s n =
      cond_case (λ (t : State). t ≡ after s n) (eqb k m)
      (λ h.
      let all : k ≡ m = eqb-true k m h in
      let over : cycles_of f ≤ p + n = omega arith in
      let same = rest_past f (start_of f p (here s.regs)) (p + k) (p + n) (omega arith) over in
      sym (after_steps (e ∙ same) ∙ rw (le-ltb (p + n) (cycles_of f) over)))
      (λ h.
      let short = eqb-false k m h in
      let all : k ≡ n = omega (arith, short) in
      sym (after_steps (e ∙ rw all) ∙ rw (lt-ltb (p + n) (cycles_of f) (omega (arith, short)), all))) in
      rw (state, value)

-- where refusals 2 and 3 do not apply, picture and table are of the right lengths
memory_fits : (b : Gdp) (p t : ℕ) → memory_number b p t ≡ 0 → (p ≡ bytes (format_of b)) × (t ≡ 480)
memory_fits b p t = from (eqb p (bytes (format_of b))) (eqb t 480) refl refl
  where
    from : (x y : Bool) → eqb p (bytes (format_of b)) ≡ x → eqb t 480 ≡ y → ◌≡◌ {A = ℕ} (cond (not x) 2 (cond (not y) 3 0)) 0
        → (p ≡ bytes (format_of b)) × (t ≡ 480)
    from true true e f h = (eqb-true _ _ e, eqb-true _ _ f)
    from true false e f h = absurd (omega arith)
    from false y e f h = absurd (omega arith)

-- X and Y of bytes that are not stray are below 4,096
stray_place : (b : Gdp) → stray b ≡ false → (b.x < 4096) × (b.y < 4096)
unfolding stray bad_regs
stray_place b o =
    let regs = (or_parts (not (named b)) (bad_regs (regs_of b)) (or_parts _ _ o).0).1 in
    let xy = or_parts (ltb 4095 b.x) (ltb 4095 b.y) (or_parts _ _ (or_parts _ _ (or_parts _ _ regs).0).0).0 in
    (omega (arith, ltb-false 4095 b.x xy.0), omega (arith, ltb-false 4095 b.y xy.1))

-- bytes of a command that steps and are not stray; f is what it draws
pub record Stepping (b : Gdp) (f : Figure) : Type 0 where
  pub sound : stray b ≡ false
  pub steps : work_in b.modes ≡ 1
  pub draws : figure (regs_of b) b.code ≡ f

-- such a command with m cycles, some of them left, that is lent memories of the right lengths
pub record Going (b : Gdp) (f : Figure) (pic tab : List ℕ) (m : ℕ) : Type 0 where
  pub command : Stepping b f
  pub cycles : m ≡ cycles_of f
  pub some : b.done < m
  pub picture : length pic ≡ bytes (format_of b)
  pub table : length tab ≡ 480

-- the refusals as the code finds them, with the cycles m at hand
abbrev step_code : Gdp → ℕ → List ℕ → List ℕ → ℕ
step_code b m pic tab = cond (leb m b.done) 1 (memory_number b (length pic) (length tab))

module _ {b : Gdp} {f : Figure} (h : Stepping b f) (pic tab : List ℕ) {m : ℕ} (em : m ≡ cycles_of f) where
  -- they are the definition's
  step_code_lem : (n : ℕ) → grant_code b n pic tab ≡ step_code b m pic tab
  unfolding bad_step cycles lowest wrong_picture wrong_table state_of
  step_code_lem n = rw (em, steps_flawed b h.sound h.steps, h.draws)

  -- with one the grant is refused
  pub step_refused : (n : ℕ) {r : Result Reply Refusal} (why : Refusal) → r ≡ Err why → refusal_number why ≡ step_code b m pic tab
      → Grants b n pic tab (as_answer b r) pic
  step_refused n why e k = grant_refused b n pic tab why e (k ∙ sym (step_code_lem n))

  -- with 0 it goes on
  pub step_goes : 0 ≡ step_code b m pic tab → Going b f pic tab m
  step_goes z = from (leb m b.done) refl (sym z)
    where
      from : (x : Bool) → leb m b.done ≡ x → cond x 1 (memory_number b (length pic) (length tab)) ≡ 0 → Going b f pic tab m
      from true e z = absurd (omega arith)
      from false e z =
          let fits = memory_fits b (length pic) (length tab) z in
          record { command = h; cycles = em; some = leb-false m b.done e; picture = fits.0; table = fits.1 }

module _ {b : Gdp} {f : Figure} {pic tab : List ℕ} {m : ℕ} (g : Going b f pic tab m) where
  -- the window of the picture
  pub on_screen : Screen (tip (format_of b) (regs_of b)).window (length pic)
  unfolding tip
  on_screen = rw g.picture (screen (format_of b) (cyclic (regs_of b)))

  module _ (n : ℕ) {left used : ℕ} (el : left ≡ m - b.done) (eu : used ≡ min n left) where
    -- the run that the code makes is one that the figure has
    pub run_granted : Granted f (run_of b used)
    unfolding run_of
    run_granted =
        let at = stray_place b g.command.sound in
        record { some = omega arith; most = omega arith; x = at.0; y = at.1 }

    -- and after it the code's answer is the definition's
    pub step_granted : {s : Spot} {r : Answer} {q : List ℕ}
        → Ran (tip (format_of b) (regs_of b)) f (glyph (tables tab) b.code) (run_of b used) s pic q
        → r ≡ flat_answer (rests_at (state_of b) b.code b.done used left s) → Grants b n pic tab r q
    unfolding run_of flat_answer tip state_of
    step_granted {s} {r} {q} ran er =
        let count : used ≡ min n (cycles_of f - b.done) = omega arith in
        let some : b.done < cycles_of f = omega arith in
        let all : left ≡ cycles_of f - b.done = omega arith in
        let draws = g.command.draws in
        let runs = steps_run b g.command.steps in
        let rests = step_rests (state_of b) b.code b.done n f draws runs some count all ran.rests in
        let written = dots_steps (state_of b) b.code b.done n f draws runs (tables tab) in
        let fits : step_code b m pic tab ≡ 0 = rw (lt-leb m b.done g.some, eq-eqb _ _ g.picture, eq-eqb _ _ g.table) in
        grant_accepted b n pic tab (step_code_lem g.command pic tab g.cycles n ∙ fits)
        (er ∙ ap flat_answer rests) (ran.picture ∙ rw (count, written))

-- 0F writes no dot
no_dots : (t : Tip) (g : List ℕ) (at : Spot) (i k : ℕ) → dots_from t Pause g at i k ≡ []
unfolding dots_from dot_of mark writes
no_dots t g at i zero = refl
no_dots t g at i (suc k) = rw (and-false t.down) (no_dots t g at (suc i) k)

-- and stays where it is
pub pause_ran : (b : Gdp) (t : Tip) (g : List ℕ) (k : ℕ) (pic : List ℕ) → stray b ≡ false
    → Ran t Pause g (run_of b k) (spot b.x b.y) pic pic
unfolding run_of rest_of start_of place_of way end_way moved moved_back
pause_ran b t g k pic o =
    let in-range = stray_place b o in
    let stays : (v : ℕ) → v < 4096 → v ≡ ahead (behind v 0) 0 = λ v l. omega arith in
    let x = stays b.x in-range.0 in
    let y = stays b.y in-range.1 in
    let place : spot b.x b.y ≡ spot (ahead (behind b.x 0) 0) (ahead (behind b.y 0) 0) = λ j. spot (x j) (y j) in
    record {
      rests = cond_case (λ (s : Spot). spot b.x b.y ≡ s) (ltb (b.done + k) (cycles_of Pause)) (λ _. place) (λ _. place);
      picture = rw no_dots;
    }

-- a stepping command of bytes that are not stray
module _ (b : Gdp) (sound : stray b ≡ false) (steps : work_in b.modes ≡ 1) where
  pub figure_steps : {f : Figure} → figure (regs_of b) b.code ≡ f → Stepping b f
  figure_steps e = record { sound = sound; steps = steps; draws = e }

  -- by its kind
  by_kind : {K : Kind} → kind b.code ≡ K → Stepping b (figure_by (regs_of b) b.code K)
  unfolding figure
  by_kind e = figure_steps (ap (figure_by (regs_of b) b.code) e)

  -- a vector, its line at hand
  pub vector_steps : kind b.code ≡ Vector → {l : Line} → l ≡ line_of b.code b.deltax b.deltay
      → Stepping b (Stroke b.ctrl2 l)
  unfolding figure_by
  vector_steps e el = rw el (by_kind e)

  -- 0F, one cycle without a dot
  pub pause_steps : kind b.code ≡ OneCycle → Stepping b Pause
  unfolding figure_by
  pause_steps e = by_kind e

  -- a command without write cycles has none left
  pub nothing_refused : (n : ℕ) (pic tab : List ℕ) → kind b.code ≡ NoCycle
      → Grants b n pic tab (as_answer b (Err BadState)) pic
  unfolding figure_by cycles_of refusal_number
  nothing_refused n pic tab e =
      step_refused (by_kind e) pic tab {m = 0} refl n BadState refl (rw (le-leb 0 b.done (omega arith)))

-- every character but 0A and 0B has its glyph in a table of 480 bytes
pub has_table : (c : ℕ) (tab : List ℕ) → c < 256 → lettering (kind c) ≡ true → length tab ≡ 480 → HasTable c tab
has_table c tab h l t =
    let test : ((leb 0x20 c && ltb c 0x80) || eqb c 0x0A || eqb c 0x0B) ≡ true = letter_codes c h ∙ l in
    let range : (eqb c 0x0A || eqb c 0x0B) ≡ false → (leb 0x20 c ≡ true) × (ltb c 0x80 ≡ true) =
    λ no. let each = or_parts (eqb c 0x0A) (eqb c 0x0B) no in
    and_parts _ _ (sym (rw (each.0, each.1, or-false, or-false)) ∙ test) in
    record { low = λ no. leb-true 0x20 c (range no).0; high = λ no. omega (arith, t, ltb-true c 0x80 (range no).1) }

-- an idle or clearing processor uses no cycle
others_still : (s : State) (n : ℕ) (t : Tables) (x g : Bool) (o : Frames) → s.work ≡ cond x Idle (Clear g o)
    → (used s n ≡ 0) × (after s n ≡ s) × (dots s t n ≡ [])
unfolding used left left_of after after_of dots dots_of
others_still s n t true g o e =
    (ap (λ (w : Work). min n (left_of s.regs w)) e ∙ omega arith, ap (after_of s n) e, ap (dots_of s.format s.regs t n) e)
others_still s n t false g o e =
    (ap (λ (w : Work). min n (left_of s.regs w)) e ∙ omega arith, ap (after_of s n) e, ap (dots_of s.format s.regs t n) e)

-- so its grant leaves everything as it is
pub others_granted : (b : Gdp) (n : ℕ) (pic tab : List ℕ) → stray b ≡ false → (work_in b.modes ≡ 1 → ⊥)
    → memory_number b (length pic) (length tab) ≡ 0 → Grants b n pic tab (record { number = 0; value = 0; state = flat (state_of b) }) pic
others_granted b n pic tab sound other z =
    let still =
    others_still (state_of b) n (tables tab) (eqb (work_in b.modes) 0) (bit_at 5 b.modes) (frames_in b.modes) (others_run b other) in
    grant_accepted b n pic tab (grant_memories b n pic tab (others_sound b sound other) ∙ z)
    (rw (still.0, still.1)) (rw still.2)
