-- The laws of painting: what one written dot changes, and what a painted list changes.
-- Assumes nothing.
use mathlib.Core.Path.{◌≡◌, refl, sym, ap, ap₂, ◌∙◌}
use mathlib.Core.Logic.{⊎_elim}
use mathlib.Core.Bool.{Bool, true, false, cond, ◌||◌, or_assoc, beq}
use mathlib.Core.List.{List, [], ◌∷◌, ◌++◌, append_assoc, append-nil}
use Prim.Native.Nat.{ℕ, zero, suc, ◌+◌, ◌*◌, ◌/◌, ◌%◌, ◌<◌, ◌≤◌}
use native.Mathlib.Nat.{zero-add, add-zero, suc-add, add-suc}
use native.Mathlib.Omega.{arith}
use lib.Dec.{eqb, ltb}
use lib.ListN.{length, get_or, replicate, length-set, length-replicate, get_or-replicate}
use lib.Seq.{get_or-set_same, get_or-set_other, set_out, ext_get_or}
use borrow.Author.Tests.{eqb-true, eqb-false, ltb-true, ltb-false}
use Rattle.picture.specs.Bit.{bit_at, with_bit}
use Rattle.picture.specs.Dot.{dot_at, set_dot, paint, gathered, has, whole, solid, Bytes}
use Rattle.basis.proofs.Cases.{split}
use Rattle.basis.proofs.Table.{at, beq_eq}
use Rattle.picture.proofs.Bits.{bit_same, bit_other, bit_fits, bit_ext}

-- one dot: the length stays, the dot is as written, every other dot and the bytes stay
pub set_dot_length : (b : Bool) (d : ℕ) (pic : List ℕ) → length (set_dot b d pic) ≡ length pic
unfolding set_dot
set_dot_length b d pic = simp length-set

pub dot_same : (b : Bool) (d : ℕ) (pic : List ℕ) → d < 8 * length pic → dot_at (set_dot b d pic) d ≡ b
unfolding dot_at set_dot
dot_same b d pic h =
    ap (bit_at (d % 8)) (get_or-set_same pic (d / 8) (with_bit b (d % 8) (get_or pic (d / 8) 0)) 0 (omega arith))
    ∙ bit_same b (d % 8) (get_or pic (d / 8) 0)

pub dot_other : (b : Bool) (d e : ℕ) (pic : List ℕ) → (e ≡ d → ⊥) → dot_at (set_dot b d pic) e ≡ dot_at pic e
unfolding dot_at set_dot
dot_other b d e pic ne =
    let v = get_or pic (d / 8) 0 in
    ⊎_elim
    (λ q. let byte : e / 8 ≡ d / 8 = eqb-true (e / 8) (d / 8) q in
    ⊎_elim
    (λ l. rw byte (ap (bit_at (e % 8)) (get_or-set_same pic (d / 8) (with_bit b (d % 8) v) 0 (ltb-true (d / 8) (length pic) l))
    ∙ bit_other b (d % 8) (e % 8) v (λ r. ne (omega arith))))
    (λ l. ap (λ (p : List ℕ). bit_at (e % 8) (get_or p (e / 8) 0)) (set_out pic (d / 8) (with_bit b (d % 8) v) (ltb-false (d / 8) (length pic) l)))
    (split (ltb (d / 8) (length pic))))
    (λ q. ap (bit_at (e % 8)) (get_or-set_other pic (d / 8) (e / 8) (with_bit b (d % 8) v) 0 (eqb-false (e / 8) (d / 8) q)))
    (split (eqb (e / 8) (d / 8)))

pub set_dot_bytes : (b : Bool) (d : ℕ) (pic : List ℕ) → Bytes pic → Bytes (set_dot b d pic)
unfolding set_dot
set_dot_bytes b d pic h i =
    let v = get_or pic (d / 8) 0 in
    ⊎_elim
    (λ q. let byte : i ≡ d / 8 = eqb-true i (d / 8) q in
    ⊎_elim
    (λ l. rw byte (rw (get_or-set_same pic (d / 8) (with_bit b (d % 8) v) 0 (ltb-true (d / 8) (length pic) l)) (bit_fits b 8 (d % 8) v (omega arith) (h (d / 8)))))
    (λ l. rw (set_out pic (d / 8) (with_bit b (d % 8) v) (ltb-false (d / 8) (length pic) l)) (h i))
    (split (ltb (d / 8) (length pic))))
    (λ q. rw (get_or-set_other pic (d / 8) i (with_bit b (d % 8) v) 0 (eqb-false i (d / 8) q)) (h i))
    (split (eqb i (d / 8)))

-- a list of dots
pub paint_length : (b : Bool) (ds pic : List ℕ) → length (paint b ds pic) ≡ length pic
paint_length b [] pic = refl
paint_length b (d ∷ ds) pic = paint_length b ds (set_dot b d pic) ∙ set_dot_length b d pic

pub paint_bytes : (b : Bool) (ds pic : List ℕ) → Bytes pic → Bytes (paint b ds pic)
paint_bytes b [] pic h = h
paint_bytes b (d ∷ ds) pic h = paint_bytes b ds (set_dot b d pic) (set_dot_bytes b d pic h)

pub paint_append : (b : Bool) (ds es pic : List ℕ) → paint b (ds ++ es) pic ≡ paint b es (paint b ds pic)
paint_append b [] es pic = refl
paint_append b (d ∷ ds) es pic = paint_append b ds es (set_dot b d pic)

pub has_append : (d : ℕ) (ds es : List ℕ) → has d (ds ++ es) ≡ (has d ds || has d es)
has_append d [] es = refl
has_append d (e ∷ ds) es = simp (has_append d ds es) (sym (or_assoc (eqb d e) (has d ds) (has d es)))

-- the steps of a run and then of another are those of both
pub gathered_append : (dot : ℕ → List ℕ) (i a b : ℕ) → gathered dot i (a + b) ≡ gathered dot i a ++ gathered dot (i + a) b
gathered_append dot i zero b = rw (zero-add b, add-zero i)
gathered_append dot i (suc a) b =
    rw (suc-add a b, add-suc i a, ← suc-add i a)
    (ap (λ (l : List ℕ). dot i ++ l) (gathered_append dot (suc i) a b)
    ∙ sym (append_assoc (dot i) (gathered dot (suc i) a) (gathered dot (suc i + a) b)))

-- m steps more, as a loop paints them
pub paint_further : (b : Bool) (dot : ℕ → List ℕ) (i k m : ℕ) (pic : List ℕ)
    → paint b (gathered dot i (k + m)) pic ≡ paint b (gathered dot (i + k) m) (paint b (gathered dot i k) pic)
paint_further b dot i k m pic =
    rw (gathered_append dot i k m) (paint_append b (gathered dot i k) (gathered dot (i + k) m) pic)

-- one step more
pub paint_more : (b : Bool) (dot : ℕ → List ℕ) (i k : ℕ) (pic : List ℕ)
    → paint b (gathered dot i (k + 1)) pic ≡ paint b (dot (i + k)) (paint b (gathered dot i k) pic)
paint_more b dot i k pic = paint_further b dot i k 1 pic ∙ rw (append-nil (dot (i + k)))

-- runs whose steps write the same dots
pub gathered_same : (f g : ℕ → List ℕ) (i k : ℕ) → ((j : ℕ) → i ≤ j → j < i + k → f j ≡ g j) → gathered f i k ≡ gathered g i k
gathered_same f g i zero h = refl
gathered_same f g i (suc k) h =
    ap₂ ◌++◌ (h i (omega arith) (omega arith)) (gathered_same f g (suc i) k (λ j l m. h j (omega arith) (omega arith)))

cond_same : (t b : Bool) → cond t b b ≡ b
cond_same true b = refl
cond_same false b = refl

-- the main law: a painted list's dots are as written, and every other dot is as before
pub paint_dot : (b : Bool) (ds pic : List ℕ) (d : ℕ) → d < 8 * length pic → dot_at (paint b ds pic) d ≡ cond (has d ds) b (dot_at pic d)
paint_dot b [] pic d h = refl
paint_dot b (e ∷ es) pic d h =
    paint_dot b es (set_dot b e pic) d (rw set_dot_length h)
    ∙ ⊎_elim
    (λ q. rw q (ap (cond (has d es) b) (rw (eqb-true d e q) (dot_same b e pic (rw (eqb-true d e q) at h))) ∙ cond_same (has d es) b))
    (λ q. rw q (ap (cond (has d es) b) (dot_other b e d pic (eqb-false d e q))))
    (split (eqb d e))

over : (t a b c : Bool) → cond t b (cond t a c) ≡ cond t b c
over true a b c = refl
over false a b c = refl

-- two lists, one after the other
pub paint_two : (a b : Bool) (ds es pic : List ℕ) (d : ℕ) → d < 8 * length pic
    → dot_at (paint b es (paint a ds pic)) d ≡ cond (has d es) b (cond (has d ds) a (dot_at pic d))
paint_two a b ds es pic d h =
    paint_dot b es (paint a ds pic) d (rw paint_length h) ∙ ap (cond (has d es) b) (paint_dot a ds pic d h)

-- painted one way and then the other
pub repaint_dot : (a b : Bool) (ds pic : List ℕ) (d : ℕ) → d < 8 * length pic
    → dot_at (paint b ds (paint a ds pic)) d ≡ cond (has d ds) b (dot_at pic d)
repaint_dot a b ds pic d h = paint_two a b ds ds pic d h ∙ over (has d ds) a b (dot_at pic d)

-- a picture is its dots
pub picture_ext : (p q : List ℕ) → Bytes p → Bytes q → length p ≡ length q
    → ((d : ℕ) → d < 8 * length p → dot_at p d ≡ dot_at q d) → p ≡ q
unfolding dot_at
picture_ext p q hp hq len same =
    ext_get_or 0 p q len
    (λ i hi. bit_ext 8 (get_or p i 0) (get_or q i 0) (hp i) (hq i)
    (λ k hk.
    let byte : (8 * i + k) / 8 ≡ i = omega arith in
    let bit : (8 * i + k) % 8 ≡ k = omega arith in
    rw (byte, bit) at (same (8 * i + k) (omega arith))))

-- drawn and erased, the picture is the first one exactly when no dot of the list was lit
pub restored : (ds pic : List ℕ) → Bytes pic → ((d : ℕ) → d < 8 * length pic → has d ds ≡ true → dot_at pic d ≡ false)
    → paint false ds (paint true ds pic) ≡ pic
restored ds pic h dark =
    picture_ext (paint false ds (paint true ds pic)) pic (paint_bytes false ds (paint true ds pic) (paint_bytes true ds pic h)) h
    (paint_length false ds (paint true ds pic) ∙ paint_length true ds pic)
    (λ d hd.
    let l : d < 8 * length pic = rw (paint_length false ds (paint true ds pic), paint_length true ds pic) at hd in
    repaint_dot true false ds pic d l
    ∙ ⊎_elim (λ t. rw t (sym (dark d l t))) (λ t. rw t) (split (has d ds)))

pub was_dark : (ds pic : List ℕ) → paint false ds (paint true ds pic) ≡ pic
    → (d : ℕ) → d < 8 * length pic → has d ds ≡ true → dot_at pic d ≡ false
was_dark ds pic e d l t = ap (λ (p : List ℕ). dot_at p d) (sym e) ∙ repaint_dot true false ds pic d l ∙ rw t

-- each of the eight bits of 255 is 1, and every bit of 0 is 0
pub all_ones : (k : ℕ) → k < 8 → bit_at k 255 ≡ true
all_ones k h = beq_eq (bit_at k 255) true (at {A = ℕ} (λ k _. beq (bit_at k 255) true) 0 (replicate 8 0) tt k h)

no_ones : (k : ℕ) → bit_at k 0 ≡ false
no_ones zero = refl
no_ones (suc k) = no_ones k

solid_bit : (b : Bool) (k : ℕ) → k < 8 → bit_at k (solid b) ≡ b
solid_bit true k h = all_ones k h
solid_bit false k h = no_ones k

-- every dot of a whole picture is as asked
pub whole_dot : (b : Bool) (pic : List ℕ) (d : ℕ) → d < 8 * length pic → dot_at (whole b pic) d ≡ b
unfolding dot_at
whole_dot b pic d h = rw (get_or-replicate {A = ℕ} (length pic) (d / 8) (solid b) 0 (omega arith)) (solid_bit b (d % 8) (omega arith))

pub whole_length : (b : Bool) (pic : List ℕ) → length (whole b pic) ≡ length pic
whole_length b pic = length-replicate (length pic) (solid b)
