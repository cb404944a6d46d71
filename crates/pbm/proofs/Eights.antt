-- Eight signs: side by side, or searched for one after the other.
-- Assumes nothing.
use mathlib.Core.Path.{◌≡◌, refl, sym, ap, ◌∙◌}
use mathlib.Core.Logic.{⊎_elim}
use mathlib.Core.Bool.{Bool, true, false, ◌&&◌, and-false, false≢true}
use mathlib.Core.List.{List, [], ◌∷◌, ◌++◌, append_assoc, append-nil}
use Prim.Native.Nat.{ℕ, zero, suc, ◌+◌, ◌-◌, ◌*◌, ◌^◌, ◌≤◌, ◌<◌}
use native.Mathlib.Nat.{pow-suc}
use native.Mathlib.Omega.{arith}
use borrow.Author.Tests.{eqb-true}
use lib.Dec.{eqb}
use lib.ListN.{length, get_or, set, take, drop, length-append, length-set}
use lib.Pow.{pow_mono}
use Rattle.std.proofs.Common.{Option, None, Some, IsSome, Bor}
use Rattle.std.specs.List.{fold}
use Rattle.std.proofs.lemmas.List.{nil_from_length, take_all, take_more_set}
use Rattle.std.proofs.lemmas.List.Folds.{fold_stays}
use Rattle.basis.proofs.Cases.{or_cases, split, and_parts}
use Rattle.picture.specs.Bit.{digit}
use Rattle.pbm.specs.Contents.{passed, taken, is_dot, are_dots, weighed}
use Rattle.pbm.specs.Working.Left.{behind}
use Rattle.pbm.specs.Working.Eights.{Eight, Eights}
use Rattle.pbm.proofs.Taking.{taken_passed, behind_passed, taken_take, behind_drop, dots_append, taken_next, behind_next}

-- a dot's bit, and that it is one
pub dot_digit : (b : ℕ) → is_dot b ≡ true → (48 ≤ b) × (b ≤ 49) × (b - 48 ≡ digit (eqb b 49))
unfolding is_dot
dot_digit b e =
    ⊎_elim (λ t. rw (eqb-true b 48 t) (omega arith, omega arith, refl))
    (λ t. rw (eqb-true b 49 t) (omega arith, omega arith, refl))
    (or_cases _ _ e)

-- eight dots side by side
pub beside : {s signs rest : List ℕ} {byte : ℕ} → 8 ≤ length s → signs ≡ take 8 s → rest ≡ drop 8 s
    → (are_dots signs ≡ true) × (byte ≡ weighed 8 signs) → Eight s byte rest
beside {s} some here behind e =
    let dots : are_dots (take 8 s) ≡ true = rw here at e.0 in
    let same = here ∙ sym (taken_take 8 s some dots) in
    record { dots = rw same at e.0; shows = rw same at e.1; left = behind ∙ sym (behind_drop 8 s some dots) }

-- behind white space they are the same
beyond : {s rest : List ℕ} {byte : ℕ} → Eight (passed false s) byte rest → Eight s byte rest
beyond {s} e =
    let signs = taken_passed 7 s in
    record {
      dots = sym (ap are_dots signs) ∙ e.dots;
      shows = e.shows ∙ ap (weighed 8) signs;
      left = e.left ∙ behind_passed 7 s;
    }

pub eights_beyond : (s p : List ℕ) (r : Option (ℕ × Bor (List ℕ))) → p ≡ passed false s → Eights p r → Eights s r
eights_beyond s p None e h = sym (ap are_dots (taken_passed 7 s)) ∙ (rw e at h)
eights_beyond s p (Some x) e h = beyond (rw e at h)

-- dots that are searched for are found
pub some_eight : (s : List ℕ) (r : Option (ℕ × Bor (List ℕ))) → are_dots (taken 8 s) ≡ true → Eights s r → IsSome r
some_eight s None e h = absurd (false≢true (sym h ∙ e))
some_eight s (Some x) e h = refl

-- all of them are dots where each is
pub all_dots : (xs : List ℕ) → fold (λ dots b. dots && is_dot b) true xs ≡ are_dots xs
unfolding are_dots
all_dots [] = refl
all_dots (x ∷ xs) = ⊎_elim (λ e. rw e (all_dots xs)) (λ e. rw e (fold_stays (λ dots b. dots && is_dot b) false (λ b. refl) xs)) (split (is_dot x))

digit_lt : (b : Bool) → digit b < 2
digit_lt true = omega arith
digit_lt false = omega arith

-- k signs weigh less than 2 to the power k
weighed_small : (k : ℕ) (s : List ℕ) → weighed k s < 2 ^ k
unfolding weighed
weighed_small zero s = omega arith
weighed_small (suc k) s =
    omega (arith, pow-suc 2 k, weighed_small k (drop 1 s), digit_lt (eqb (get_or s 0 0) 49))

-- so eight signs make a byte
pub eight_small : {s rest : List ℕ} {byte : ℕ} → Eight s byte rest → byte < 256
eight_small {s} e = omega (arith, e.shows, weighed_small 8 (taken 8 s))

-- of eight signs some are left, and those behind them are weighed
pub record Weighed (signs left : List ℕ) (byte : ℕ) : Type 0 where
  pub seen : List ℕ
  pub whole : left ++ seen ≡ signs
  pub weighs : byte ≡ weighed (length seen) seen

pub weighed_none : (signs : List ℕ) → Weighed signs signs 0
unfolding weighed
weighed_none signs = record { seen = []; whole = append-nil signs; weighs = refl }

module _ {signs rest : List ℕ} {byte : ℕ} (left : List ℕ) (b : ℕ) (w : Weighed signs rest byte) (n : rest ≡ left ++ b ∷ []) where
  again : left ++ b ∷ w.seen ≡ signs
  again = sym (append_assoc left (b ∷ []) w.seen) ∙ (rw n at w.whole)

  -- the next one is a dot, and there is room for its bit
  pub next_weighed : length signs ≡ 8 → are_dots signs ≡ true → (is_dot b ≡ true) × (byte < 128)
  unfolding are_dots
  next_weighed all e =
      let parts = and_parts (are_dots left) (are_dots (b ∷ w.seen)) (sym (dots_append left (b ∷ w.seen)) ∙ ap are_dots again ∙ e) in
      let few : length w.seen ≤ 7 = omega (arith, all, ap length again, length-append left (b ∷ w.seen)) in
      let most : 2 ^ length w.seen ≤ 128 = pow_mono {j = 7} few in
      ((and_parts (is_dot b) (are_dots w.seen) parts.1).0, omega (arith, w.weighs, weighed_small (length w.seen) w.seen))

  pub weighed_more : {more : ℕ} → more ≡ digit (eqb b 49) + 2 * byte → Weighed signs left more
  unfolding weighed
  weighed_more e = record { seen = b ∷ w.seen; whole = again; weighs = e ∙ rw w.weighs }

pub weighed_all : {signs left : List ℕ} {byte : ℕ} → length signs ≡ 8 → length left ≡ 0 → Weighed signs left byte
    → byte ≡ weighed 8 signs
weighed_all {left = left} all none w = w.weighs ∙ rw ((rw (nil_from_length left none) at w.whole), all)

-- of eight signs that are searched for k are found, and the others stand in what is left
pub record Sought (s signs rest : List ℕ) (k : ℕ) : Type 0 where
  pub size : length signs ≡ 8
  pub few : k ≤ 8
  pub found : take k signs ++ taken (8 - k) rest ≡ taken 8 s
  pub left : behind (8 - k) rest ≡ behind 8 s

pub sought_none : (s signs : List ℕ) → length signs ≡ 8 → Sought s signs s 0
sought_none s signs e = record { size = e; few = omega arith; found = refl; left = refl }

module _ {s signs rest : List ℕ} {k : ℕ} (t : Sought s signs rest k) where
  module _ {next : List ℕ} (h : k < 8) (n : next ≡ passed false rest) where
    later : 8 - k ≡ suc (8 - (k + 1))
    later = omega arith

    -- there is no other
    pub sought_end : length next ≡ 0 → are_dots (taken 8 s) ≡ false
    unfolding taken are_dots is_dot
    sought_end z =
        let none : passed false rest ≡ [] = sym n ∙ nil_from_length next z in
        sym (ap are_dots t.found) ∙ dots_append (take k signs) (taken (8 - k) rest) ∙ rw (later, none, and-false)

    -- the next is no dot
    pub sought_bad : (b : ℕ) (more : List ℕ) → next ≡ b ∷ more → is_dot b ≡ false → are_dots (taken 8 s) ≡ false
    unfolding are_dots
    sought_bad b more e bad =
        let others : taken (8 - k) rest ≡ b ∷ taken (8 - (k + 1)) more =
        ap (λ i. taken i rest) later ∙ taken_next (8 - (k + 1)) rest (sym n ∙ e)
        in
        sym (ap are_dots t.found) ∙ dots_append (take k signs) (taken (8 - k) rest) ∙ rw (others, bad, and-false)

    -- the next
    pub sought_more : (b : ℕ) (more : List ℕ) → next ≡ b ∷ more → Sought s (set signs k b) more (k + 1)
    sought_more b more e =
        let there : passed false rest ≡ b ∷ more = sym n ∙ e in
        let front : take (k + 1) (set signs k b) ≡ take k signs ++ b ∷ [] = take_more_set signs k b (omega (arith, t.size)) in
        let m = 8 - (k + 1) in
        record {
          size = length-set signs k b ∙ t.size;
          few = omega arith;
          found =
              ap (λ xs. xs ++ taken m more) front
              ∙ append_assoc (take k signs) (b ∷ []) (taken m more)
              ∙ ap (λ xs. take k signs ++ xs) (sym (ap (λ i. taken i rest) later ∙ taken_next m rest there))
              ∙ t.found;
          left = sym (ap (λ i. behind i rest) later ∙ behind_next m rest there) ∙ t.left;
        }

  -- all eight
  module _ (h : 8 ≤ k) where
    sought_signs : signs ≡ taken 8 s
    unfolding taken
    sought_signs =
        let all : k ≡ 8 = omega (arith, t.few) in
        sym (take_all 8 signs (omega (arith, t.size))) ∙ sym (append-nil (take 8 signs)) ∙ (rw all at t.found)

    pub sought_other : are_dots signs ≡ false → are_dots (taken 8 s) ≡ false
    sought_other e = rw (← sought_signs) e

    pub sought_eight : {byte : ℕ} → (are_dots signs ≡ true) × (byte ≡ weighed 8 signs) → Eight s byte rest
    unfolding behind
    sought_eight e =
        let all : k ≡ 8 = omega (arith, t.few) in
        record { dots = rw (← sought_signs) e.0; shows = rw (← sought_signs) e.1; left = rw all at t.left }
