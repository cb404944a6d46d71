-- The order of painting does not matter: the same dots lit or darkened in another order leave the same picture.
-- Assumes nothing.
use mathlib.Core.Path.{◌≡◌, refl, sym, ap, ap₂, ◌∙◌}
use mathlib.Core.Logic.{⊎_elim}
use mathlib.Core.Bool.{Bool}
use mathlib.Core.List.{List, [], ◌∷◌, ◌++◌}
use Prim.Native.Nat.{ℕ, zero, suc, ◌+◌, ◌*◌, ◌/◌, ◌%◌, ◌<◌}
use native.Mathlib.Nat.{add-zero, zero-add, suc-add, add-suc, add_comm, zero-mul, suc-mul}
use native.Mathlib.Numerals.{add-one}
use native.Mathlib.Omega.{arith}
use lib.Dec.{eqb, ltb}
use lib.ListN.{length, get_or}
use lib.Seq.{get_or-set_same, get_or-set_other, set_out, set-set, set_comm}
use borrow.Author.Tests.{eqb-true, eqb-false, ltb-true, ltb-false}
use Rattle.picture.specs.Bit.{digit, with_bit}
use Rattle.picture.specs.Dot.{set_dot, paint, gathered}
use Rattle.picture.specs.Working.Runs.{up_from}
use Rattle.picture.proofs.Bits.{half_join, odd_join, digit_lt}
use Rattle.basis.proofs.Cases.{split}
use Rattle.picture.proofs.Dots.{paint_append, paint_more, gathered_append}

-- two bits of a number
bit_swap : (b : Bool) (j k v : ℕ) → with_bit b j (with_bit b k v) ≡ with_bit b k (with_bit b j v)
bit_swap b zero zero v = refl
bit_swap b zero (suc k) v =
    rw (half_join (with_bit b k (v / 2)) (v % 2) (omega arith), half_join (v / 2) (digit b) (digit_lt b), odd_join (v / 2) (digit b) (digit_lt b))
bit_swap b (suc j) zero v =
    rw (half_join (with_bit b j (v / 2)) (v % 2) (omega arith), half_join (v / 2) (digit b) (digit_lt b), odd_join (v / 2) (digit b) (digit_lt b))
bit_swap b (suc j) (suc k) v =
    rw (half_join (with_bit b j (v / 2)) (v % 2) (omega arith), half_join (with_bit b k (v / 2)) (v % 2) (omega arith))
    (rw (odd_join (with_bit b j (v / 2)) (v % 2) (omega arith), odd_join (with_bit b k (v / 2)) (v % 2) (omega arith), bit_swap b j k (v / 2)))

-- two dots
dot_swap : (b : Bool) (d e : ℕ) (pic : List ℕ) → set_dot b d (set_dot b e pic) ≡ set_dot b e (set_dot b d pic)
unfolding set_dot
dot_swap b d e pic =
    let v = get_or pic (d / 8) 0 in
    ⊎_elim
    (λ q. let byte : e / 8 ≡ d / 8 = eqb-true (e / 8) (d / 8) q in
    ⊎_elim
    (λ l. let h : d / 8 < length pic = ltb-true (d / 8) (length pic) l in
    rw byte
    (rw (get_or-set_same pic (d / 8) (with_bit b (e % 8) v) 0 h, get_or-set_same pic (d / 8) (with_bit b (d % 8) v) 0 h)
    (simp set-set (rw (bit_swap b (d % 8) (e % 8) v)))))
    (λ l. let h = ltb-false (d / 8) (length pic) l in
    rw byte (rw (set_out pic (d / 8) (with_bit b (e % 8) v) h, set_out pic (d / 8) (with_bit b (d % 8) v) h)
    (sym (set_out pic (d / 8) (with_bit b (e % 8) v) h))))
    (split (ltb (d / 8) (length pic))))
    (λ q. let other = eqb-false (e / 8) (d / 8) q in
    rw (get_or-set_other pic (e / 8) (d / 8) (with_bit b (e % 8) (get_or pic (e / 8) 0)) 0 (λ r. other (sym r)), get_or-set_other pic (d / 8) (e / 8) (with_bit b (d % 8) v) 0 other)
    (set_comm pic (e / 8) (d / 8) (with_bit b (e % 8) (get_or pic (e / 8) 0)) (with_bit b (d % 8) v) other))
    (split (eqb (e / 8) (d / 8)))

dot_last : (b : Bool) (d : ℕ) (es pic : List ℕ) → paint b es (set_dot b d pic) ≡ set_dot b d (paint b es pic)
dot_last b d [] pic = refl
dot_last b d (e ∷ es) pic = ap (paint b es) (dot_swap b e d pic) ∙ dot_last b d es (set_dot b e pic)

-- two lists
pub paint_swap : (b : Bool) (ds es pic : List ℕ) → paint b ds (paint b es pic) ≡ paint b es (paint b ds pic)
paint_swap b [] es pic = refl
paint_swap b (d ∷ ds) es pic = ap (paint b ds) (sym (dot_last b d es pic)) ∙ paint_swap b ds es (set_dot b d pic)

-- steps that write the same dots, counted from i and from j
pub gathered_along : (f g : ℕ → List ℕ) (i j k : ℕ) → ((l : ℕ) → l < k → f (i + l) ≡ g (j + l)) → gathered f i k ≡ gathered g j k
gathered_along f g i j zero h = refl
gathered_along f g i j (suc k) h =
    ap₂ ◌++◌ (rw (add-zero i, add-zero j) at (h 0 (omega arith)))
    (gathered_along f g (suc i) (suc j) k (λ l m. rw (suc-add i l, suc-add j l, ← add-suc i l, ← add-suc j l) (h (suc l) (omega arith))))

-- steps that write nothing
nothing : (i k : ℕ) → gathered (λ _. []) i k ≡ []
nothing i zero = refl
nothing i (suc k) = nothing (suc i) k

pub gathered_none : (dot : ℕ → List ℕ) (i k : ℕ) → ((l : ℕ) → l < k → dot (i + l) ≡ []) → gathered dot i k ≡ []
gathered_none dot i k h = gathered_along dot (λ _. []) i 0 k h ∙ nothing 0 k

-- steps that each write two lists: the first lists of all of them, then the second
paint_each : (b : Bool) (f g : ℕ → List ℕ) (i k : ℕ) (pic : List ℕ)
    → paint b (gathered (λ u. f u ++ g u) i k) pic ≡ paint b (gathered g i k) (paint b (gathered f i k) pic)
paint_each b f g i zero pic = refl
paint_each b f g i (suc k) pic =
    let rest = gathered f (suc i) k in
    paint_append b (f i ++ g i) (gathered (λ u. f u ++ g u) (suc i) k) pic
    ∙ paint_each b f g (suc i) k (paint b (f i ++ g i) pic)
    ∙ ap (λ (p : List ℕ). paint b (gathered g (suc i) k) (paint b rest p)) (paint_append b (f i) (g i) pic)
    ∙ ap (paint b (gathered g (suc i) k)) (paint_swap b rest (g i) (paint b (f i) pic))
    ∙ sym (paint_append b (g i) (gathered g (suc i) k) (paint b rest (paint b (f i) pic)))
    ∙ ap (paint b (g i ++ gathered g (suc i) k)) (sym (paint_append b (f i) rest pic))

-- steps that leave the same pictures, counted from i and from j
pub paint_alike : (b : Bool) (f g : ℕ → List ℕ) (i j k : ℕ) → ((l : ℕ) → l < k → (q : List ℕ) → paint b (f (i + l)) q ≡ paint b (g (j + l)) q)
    → (pic : List ℕ) → paint b (gathered f i k) pic ≡ paint b (gathered g j k) pic
paint_alike b f g i j zero h pic = refl
paint_alike b f g i j (suc k) h pic =
    paint_append b (f i) (gathered f (suc i) k) pic
    ∙ paint_alike b f g (suc i) (suc j) k (λ l m. rw (suc-add i l, suc-add j l, ← add-suc i l, ← add-suc j l) (h (suc l) (omega arith))) (paint b (f i) pic)
    ∙ ap (paint b (gathered g (suc j) k)) (rw (add-zero i, add-zero j) at (h 0 (omega arith) pic))
    ∙ sym (paint_append b (g j) (gathered g (suc j) k) pic)

-- dots that follow each other, painted from the last to the first
pub paint_back : (b : Bool) (f : ℕ → ℕ) (d i k : ℕ) → ((l : ℕ) → l < k → f (i + l) + (l + 1) ≡ d + k)
    → (pic : List ℕ) → paint b (gathered (λ j. f j ∷ []) i k) pic ≡ paint b (up_from d k) pic
paint_back b f d i zero h pic = refl
paint_back b f d i (suc k) h pic =
    let first : f i ≡ d + k = omega (arith, rw (add-zero i) at (h 0 (omega arith))) in
    let rest : (l : ℕ) → l < k → f (suc i + l) + (l + 1) ≡ d + k =
    λ l m. rw (suc-add i l, ← add-suc i l) (omega (arith, h (suc l) (omega arith))) in
    paint_back b f d (suc i) k rest (set_dot b (f i) pic)
    ∙ dot_last b (f i) (up_from d k) pic
    ∙ rw first
    (sym (ap (λ (n : ℕ). paint b (up_from d n) pic) (sym (add-one k)) ∙ paint_more b (λ e. e ∷ []) d k pic))

-- columns of m steps, one column after the other, or rows of n steps, one row after the other: the same picture
pub paint_rows : (b : Bool) (dot : ℕ → ℕ → List ℕ) (i n j m : ℕ) (pic : List ℕ)
    → paint b (gathered (λ u. gathered (dot u) j m) i n) pic ≡ paint b (gathered (λ v. gathered (λ u. dot u v) i n) j m) pic
paint_rows b dot i n j zero pic = ap (λ (ds : List ℕ). paint b ds pic) (nothing i n)
paint_rows b dot i n j (suc m) pic =
    let foot = gathered (λ u. dot u j) i n in
    paint_each b (λ u. dot u j) (λ u. gathered (dot u) (suc j) m) i n pic
    ∙ paint_rows b dot i n (suc j) m (paint b foot pic)
    ∙ sym (paint_append b foot (gathered (λ v. gathered (λ u. dot u v) i n) (suc j) m) pic)

-- n columns of m steps are n × m steps
pub gathered_columns : (dot : ℕ → List ℕ) (m i n : ℕ)
    → gathered dot (i * m) (n * m) ≡ gathered (λ u. gathered (λ v. dot (u * m + v)) 0 m) i n
gathered_columns dot m i zero = rw zero-mul
gathered_columns dot m i (suc n) =
    ap (gathered dot (i * m)) (suc-mul n m ∙ add_comm (n * m) m) ∙ gathered_append dot (i * m) m (n * m)
    ∙ ap₂ ◌++◌ (gathered_along dot (λ v. dot (i * m + v)) (i * m) 0 m (λ l h. rw zero-add))
    (ap (λ (a : ℕ). gathered dot a (n * m)) (sym (suc-mul i m)) ∙ gathered_columns dot m (suc i) n)
