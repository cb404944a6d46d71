-- However cycles are granted: j and then k are j + k, in value, state and dots. So after part of a command exactly its
-- first dots are written.
-- Assumes nothing.
use mathlib.Core.Path.{◌≡◌, refl, sym, ap, ◌∙◌}
use mathlib.Core.Bool.{Bool, true, false, cond}
use mathlib.Core.List.{List, [], ◌++◌, append-nil}
use Prim.Native.Nat.{ℕ, ◌+◌, ◌-◌, ◌≤◌, ◌<◌, min}
use native.Mathlib.Omega.{arith}
use native.Mathlib.Nat.{add_assoc}
use lib.Dec.{ltb}
use borrow.Author.Tests.{le-ltb, lt-ltb, ltb-false, ltb-true}
use Rattle.picture.proofs.Laws.{gathered_append}
use Rattle.motion.specs.declared.position.Spot.{Spot}
use Rattle.motion.specs.Position.{ahead, behind, spot, moved, moved_back}
use Rattle.drawing.specs.declared.tip.Tip.{Tip}
use Rattle.drawing.specs.Figure.{Figure, cycles_of, way}
use Rattle.drawing.specs.Run.{start_of, place_of, rest_of, dot_of, dots_from}
use Rattle.rules.specs.Sequence.{Frames, Work, Idle, Steps, Clear}
use Rattle.rules.specs.State.{Regs, State, with_place, with_regs, with_work, ready_raises}
use Rattle.rules.specs.Figure.{Tables, figure, cycles, glyph}
use Rattle.rules.specs.Cycles.{pen_down, lights, cyclic, tip, here, start, left_of, left, used, dots_of, dots, rested, after_of, after}
use Rattle.rules.proofs.Figures.{figure_kept}

-- from the place of a cycle back to the start
back : (x o w : ℕ) → behind (ahead (behind x o) w) w ≡ behind x o
back x o w = omega arith

-- short of its count a figure rests on the place of the next cycle
rest_place : (f : Figure) (at : Spot) (i : ℕ) → i < cycles_of f → rest_of f at i ≡ place_of f at i
unfolding rest_of
rest_place f at i h = rw (lt-ltb i (cycles_of f) h)

-- so a figure that stands on the place of cycle q has the start that it had on cycle p's
start_again : (f : Figure) (p q : ℕ) (at : Spot) → q < cycles_of f → start_of f q (rest_of f (start_of f p at) q) ≡ start_of f p at
unfolding start_of place_of moved moved_back
start_again f p q at h =
    ap (λ (s : Spot). moved_back s (way f q)) (rest_place f (start_of f p at) q h)
    ∙ (λ j. spot (back at.x (way f p).x (way f q).x j) (back at.y (way f p).y (way f q).y j))

-- the same of a command, X and Y put on the place of cycle q
module _ (r : Regs) (c p q : ℕ) where
  abbrev onward : Regs
  onward = with_place (rest_of (figure r c) (start r c p) q) r

  same_figure : figure onward c ≡ figure r c
  same_figure = figure_kept r r.ctrl1 _ _ r.xlp r.ylp c

  same_start : q < cycles r c → start onward c q ≡ start r c p
  unfolding start cycles
  same_start h = ap (λ (f : Figure). start_of f q (here onward)) same_figure ∙ start_again (figure r c) p q (here r) h

  same_cycles : cycles onward c ≡ cycles r c
  unfolding cycles
  same_cycles = ap cycles_of same_figure

-- a command that runs
pub after_steps : (s : State) (c p n : ℕ) → s.work ≡ Steps c p
    → after s n
    ≡ cond (ltb (p + n) (cycles s.regs c)) (with_work (Steps c (p + n)) (rested s c p (p + n))) (ready_raises (with_work Idle (rested s c p (p + n))))
unfolding after after_of
after_steps s c p n e = ap (after_of s n) e

pub dots_steps : (s : State) (t : Tables) (c p n : ℕ) → s.work ≡ Steps c p
    → dots s t n
    ≡ dots_from (tip s.format s.regs) (figure s.regs c) (glyph t c) (start s.regs c p) p (min n (cycles s.regs c - p))
unfolding dots dots_of
dots_steps s t c p n e = ap (dots_of s.format s.regs t n) e

pub left_steps : (s : State) (c p : ℕ) → s.work ≡ Steps c p → left s ≡ cycles s.regs c - p
unfolding left left_of
left_steps s c p e = ap (left_of s.regs) e

-- past its count a figure rests where the command leaves it
rest_end : (f : Figure) (at : Spot) (i j : ℕ) → cycles_of f ≤ i → cycles_of f ≤ j → rest_of f at i ≡ rest_of f at j
unfolding rest_of
rest_end f at i j h k = rw (le-ltb i (cycles_of f) h, le-ltb j (cycles_of f) k)

-- and more cycles than are left change nothing more
pub enough_rested : (s : State) (c p i j : ℕ) → cycles s.regs c ≤ i → cycles s.regs c ≤ j → rested s c p i ≡ rested s c p j
unfolding rested cycles
enough_rested s c p i j h k = rw (rest_end (figure s.regs c) (start s.regs c p) i j h k)

-- a command that stands on cycle q, after some cycles: state, dots and cycles left
module _ (s : State) (c p q : ℕ) (h : q < cycles s.regs c) where
  abbrev standing : State
  standing = with_work (Steps c q) (rested s c p q)

  rested_standing : (i : ℕ) → rested standing c q i ≡ with_work (Steps c q) (rested s c p i)
  unfolding rested
  rested_standing i =
      λ j. with_work (Steps c q)
      (with_regs (with_place (rest_of (same_figure s.regs c p q j) (same_start s.regs c p q h j) i) s.regs) s)

  after_standing : (k : ℕ) → after standing k
      ≡ cond (ltb (q + k) (cycles s.regs c)) (with_work (Steps c (q + k)) (rested s c p (q + k))) (ready_raises (with_work Idle (rested s c p (q + k))))
  unfolding rested ready_raises
  after_standing k =
      after_steps standing c q k refl
      ∙ (λ j. cond (ltb (q + k) (same_cycles s.regs c p q j))
      (with_work (Steps c (q + k)) (rested_standing (q + k) j))
      (ready_raises (with_work Idle (rested_standing (q + k) j))))

  dots_standing : (t : Tables) (n : ℕ) → dots standing t n
      ≡ dots_from (tip s.format s.regs) (figure s.regs c) (glyph t c) (start s.regs c p) q (min n (cycles s.regs c - q))
  unfolding rested tip pen_down lights cyclic
  dots_standing t n =
      dots_steps standing t c q n refl
      ∙ (λ j. dots_from (tip s.format s.regs) (same_figure s.regs c p q j) (glyph t c) (same_start s.regs c p q h j) q
      (min n (same_cycles s.regs c p q j - q)))

  left_standing : left standing ≡ cycles s.regs c - q
  unfolding rested
  left_standing = left_steps standing c q refl ∙ ap (λ (m : ℕ). m - q) (same_cycles s.regs c p q)

-- the dots of a cycles and then of b are those of a + b
dots_append : (t : Tip) (f : Figure) (g : List ℕ) (at : Spot) (i a b : ℕ)
    → dots_from t f g at i (a + b) ≡ dots_from t f g at i a ++ dots_from t f g at (i + a) b
unfolding dots_from
dots_append t f g at i a b = gathered_append (dot_of t f g at) i a b

-- a state in which no command uses cycles: idle, or clearing
pub record Still (s : State) : Type 0 where
  pub stays : (n : ℕ) → after s n ≡ s
  pub blank : (t : Tables) (n : ℕ) → dots s t n ≡ []
  pub none : left s ≡ 0

still_by : (s : State) (w : Work) → s.work ≡ w → ((n : ℕ) → after_of s n w ≡ s)
    → ((t : Tables) (n : ℕ) → dots_of s.format s.regs t n w ≡ []) → left_of s.regs w ≡ 0 → Still s
unfolding after dots left
still_by s w e stays blank none =
    record {
      stays = λ n. ap (after_of s n) e ∙ stays n;
      blank = λ t n. ap (dots_of s.format s.regs t n) e ∙ blank t n;
      none = ap (left_of s.regs) e ∙ none;
    }

pub idle_still : (s : State) → s.work ≡ Idle → Still s
unfolding after_of dots_of left_of
idle_still s e = still_by s Idle e (λ n. refl) (λ t n. refl) refl

pub clear_still : (s : State) (g : Bool) (o : Frames) → s.work ≡ Clear g o → Still s
unfolding after_of dots_of left_of
clear_still s g o e = still_by s (Clear g o) e (λ n. refl) (λ t n. refl) refl

-- j cycles and then k: state, dots and used cycles
pub record Joined (s : State) (t : Tables) (j k : ℕ) : Type 0 where
  pub state : after (after s j) k ≡ after s (j + k)
  pub written : dots s t (j + k) ≡ dots s t j ++ dots (after s j) t k
  pub value : used s (j + k) ≡ used s j + used (after s j) k

still_joined : (s : State) (t : Tables) (j k : ℕ) → Still s → Joined s t j k
unfolding used
still_joined s t j k h =
    record {
      state = rw (h.stays j, h.stays k, h.stays (j + k));
      written = rw (h.stays j, h.blank t (j + k), h.blank t j, h.blank t k);
      value = rw (h.stays j, h.none) (omega arith);
    }

-- a command that is over is idle
ended : (s : State) (c p i : ℕ) → (ready_raises (with_work Idle (rested s c p i))).work ≡ Idle
unfolding ready_raises
ended s c p i = refl

steps_joined : (s : State) (t : Tables) (c p j k : ℕ) → s.work ≡ Steps c p → Joined s t j k
unfolding used
steps_joined s t c p j k e = go (ltb (p + j) (cycles s.regs c)) refl
  where
    go : (b : Bool) → ltb (p + j) (cycles s.regs c) ≡ b → Joined s t j k
    go true f =
        let h = ltb-true (p + j) (cycles s.regs c) f in
        let now : after s j ≡ standing s c p (p + j) h = after_steps s c p j e ∙ rw f in
        let rest = min k (cycles s.regs c - (p + j)) in
        let all : min (j + k) (cycles s.regs c - p) ≡ j + rest = omega arith in
        let first : min j (cycles s.regs c - p) ≡ j = omega arith in
        let from : ℕ → ℕ → List ℕ = λ i n. dots_from (tip s.format s.regs) (figure s.regs c) (glyph t c) (start s.regs c p) i n in
        let one : dots s t j ≡ from p j = dots_steps s t c p j e ∙ ap (from p) first in
        let two : dots (after s j) t k ≡ from (p + j) rest = ap (λ (u : State). dots u t k) now ∙ dots_standing s c p (p + j) h t k in
        let left_one : left s ≡ cycles s.regs c - p = left_steps s c p e in
        let left-two : left (after s j) ≡ cycles s.regs c - (p + j) = ap left now ∙ left_standing s c p (p + j) h in
        record {
          state =
              ap (λ (u : State). after u k) now
              ∙ after_standing s c p (p + j) h k
              ∙ rw (add_assoc p j k) (sym (after_steps s c p (j + k) e));
          written =
              dots_steps s t c p (j + k) e
              ∙ ap (from p) all
              ∙ dots_append (tip s.format s.regs) (figure s.regs c) (glyph t c) (start s.regs c p) p j rest
              ∙ rw (one, two);
          value = rw (left_one, left-two) (omega arith);
        }
    go false f =
        let h = ltb-false (p + j) (cycles s.regs c) f in
        let more : cycles s.regs c ≤ p + (j + k) = omega arith in
        let over = ready_raises (with_work Idle (rested s c p (p + j))) in
        let now : after s j ≡ over = after_steps s c p j e ∙ rw f in
        let still = idle_still over (ended s c p (p + j)) in
        let all : min (j + k) (cycles s.regs c - p) ≡ min j (cycles s.regs c - p) = omega arith in
        record {
          state =
              ap (λ (u : State). after u k) now
              ∙ still.stays k
              ∙ ap (λ (u : State). ready_raises (with_work Idle u)) (enough_rested s c p (p + j) (p + (j + k)) h more)
              ∙ sym (after_steps s c p (j + k) e ∙ rw (le-ltb (p + (j + k)) (cycles s.regs c) more));
          written =
              rw (now, still.blank t k, dots_steps s t c p (j + k) e, dots_steps s t c p j e, all) (sym (append-nil _));
          value = rw (now, still.none, left_steps s c p e) (omega arith);
        }

joined_by : (s : State) (t : Tables) (j k : ℕ) (w : Work) → s.work ≡ w → Joined s t j k
joined_by s t j k Idle e = still_joined s t j k (idle_still s e)
joined_by s t j k (Steps c p) e = steps_joined s t c p j k e
joined_by s t j k (Clear g o) e = still_joined s t j k (clear_still s g o e)

-- whatever runs
pub joined : (s : State) (t : Tables) (j k : ℕ) → Joined s t j k
joined s t j k = joined_by s t j k s.work refl
