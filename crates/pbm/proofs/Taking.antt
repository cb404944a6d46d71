-- The laws of the signs that are taken from a file, and of the bytes that they show.
-- Assumes nothing.
use mathlib.Core.Path.{◌≡◌, refl, sym, ap, ◌∙◌}
use mathlib.Core.Logic.{⊎_elim}
use mathlib.Core.Bool.{true, false, ◌&&◌}
use mathlib.Core.List.{List, [], ◌∷◌, ◌++◌, append-nil}
use Prim.Native.Nat.{ℕ, zero, suc, ◌+◌, ◌*◌, ◌/◌, ◌≤◌, ◌<◌}
use native.Mathlib.Nat.{zero-add, add-zero, suc-add}
use native.Mathlib.Omega.{arith}
use borrow.Author.Tests.{eqb-true}
use lib.ListN.{length, get_or, take, drop, take-append-drop, length-drop}
use lib.Seq.{length-take-le, drop-append-le, drop_at}
use Rattle.basis.proofs.Cases.{split, and_parts, or_cases}
use Rattle.pbm.specs.Contents.{is_white, passed, taken, is_dot, are_dots, weighed, packed, shown}
use Rattle.pbm.specs.Working.Left.{behind}
use Rattle.pbm.proofs.Passing.{passed_twice}

-- Signs ---------------------------------------------------------------------------------------------------------------

-- a dot is no white space, and no comment begins with it
pub passed_dot : {b : ℕ} (bs : List ℕ) → is_dot b ≡ true → passed false (b ∷ bs) ≡ b ∷ bs
unfolding passed is_dot is_white
passed_dot {b} bs e =
    ⊎_elim (λ t. rw (eqb-true b 48 t)) (λ t. rw (eqb-true b 49 t)) (or_cases _ _ e)

-- white space before the first sign makes no difference
module _ (n : ℕ) (s : List ℕ) where
  pub taken_passed : taken (suc n) (passed false s) ≡ taken (suc n) s
  unfolding taken
  taken_passed = rw (passed_twice false s)

  pub behind_passed : behind (suc n) (passed false s) ≡ behind (suc n) s
  unfolding behind
  behind_passed = rw (passed_twice false s)

-- the next sign and those behind it
module _ (n : ℕ) (s : List ℕ) {b : ℕ} {rest : List ℕ} (e : passed false s ≡ b ∷ rest) where
  pub taken_next : taken (suc n) s ≡ b ∷ taken n rest
  unfolding taken
  taken_next = rw e

  pub behind_next : behind (suc n) s ≡ behind n rest
  unfolding behind
  behind_next = rw e

-- so many signs and then so many more are those of both
pub taken_add : (m n : ℕ) (s : List ℕ) → taken (m + n) s ≡ taken m s ++ taken n (behind m s)
unfolding taken behind
taken_add zero n s = rw zero-add
taken_add (suc m) n s = rw (suc-add m n, taken_add m n (drop 1 (passed false s)))

pub behind_add : (m n : ℕ) (s : List ℕ) → behind (m + n) s ≡ behind n (behind m s)
unfolding behind
behind_add zero n s = rw zero-add
behind_add (suc m) n s = rw (suc-add m n) (behind_add m n (drop 1 (passed false s)))

pub taken_length : (n : ℕ) (s : List ℕ) → length (taken n s) ≡ n
unfolding taken
taken_length zero s = refl
taken_length (suc n) s = ap suc (taken_length n (drop 1 (passed false s)))

-- Dots ----------------------------------------------------------------------------------------------------------------

pub dots_append : (xs ys : List ℕ) → are_dots (xs ++ ys) ≡ are_dots xs && are_dots ys
unfolding are_dots
dots_append [] ys = refl
dots_append (x ∷ xs) ys = ⊎_elim (λ t. rw t (dots_append xs ys)) (λ t. rw t) (split (is_dot x))

-- so many signs are dots, and so many behind them
pub dots_add : (m n : ℕ) (s : List ℕ) → are_dots (taken (m + n) s) ≡ are_dots (taken m s) && are_dots (taken n (behind m s))
dots_add m n s = rw (taken_add m n s) (dots_append (taken m s) (taken n (behind m s)))

pub dots_parts : (m n : ℕ) (s : List ℕ) → are_dots (taken (m + n) s) ≡ true
    → (are_dots (taken m s) ≡ true) × (are_dots (taken n (behind m s)) ≡ true)
dots_parts m n s e = and_parts (are_dots (taken m s)) (are_dots (taken n (behind m s))) (sym (dots_add m n s) ∙ e)

-- each of them is one
dots_at : (xs : List ℕ) (k : ℕ) → are_dots xs ≡ true → k < length xs → is_dot (get_or xs k 0) ≡ true
unfolding are_dots
dots_at [] k e h = absurd (omega arith)
dots_at (x ∷ xs) zero e h = (and_parts (is_dot x) (are_dots xs) e).0
dots_at (x ∷ xs) (suc k) e h = dots_at xs k (and_parts (is_dot x) (are_dots xs) e).1 (omega arith)

-- dots side by side are the signs that are taken
pub taken_dots : (xs s : List ℕ) → are_dots xs ≡ true → taken (length xs) (xs ++ s) ≡ xs
unfolding taken are_dots
taken_dots [] s e = refl
taken_dots (x ∷ xs) s e =
    let parts = and_parts (is_dot x) (are_dots xs) e in
    rw (passed_dot (xs ++ s) parts.0, taken_dots xs s parts.1)

pub behind_dots : (xs s : List ℕ) → are_dots xs ≡ true → behind (length xs) (xs ++ s) ≡ s
unfolding behind are_dots
behind_dots [] s e = refl
behind_dots (x ∷ xs) s e =
    let parts = and_parts (is_dot x) (are_dots xs) e in
    ap (λ (l : List ℕ). behind (length xs) (drop 1 l)) (passed_dot (xs ++ s) parts.0) ∙ behind_dots xs s parts.1

module _ (n : ℕ) (s : List ℕ) (h : n ≤ length s) (e : are_dots (take n s) ≡ true) where
  pub taken_take : taken n s ≡ take n s
  taken_take = rw (length-take-le n s h, take-append-drop n s) at (taken_dots (take n s) (drop n s) e)

  pub behind_drop : behind n s ≡ drop n s
  behind_drop = rw (length-take-le n s h, take-append-drop n s) at (behind_dots (take n s) (drop n s) e)

-- Bytes ---------------------------------------------------------------------------------------------------------------

-- a byte looks only at its own signs
pub weighed_front : (k : ℕ) (xs ys : List ℕ) → k ≤ length xs → weighed k (xs ++ ys) ≡ weighed k xs
unfolding weighed
weighed_front zero xs ys h = refl
weighed_front (suc k) [] ys h = absurd (omega arith)
weighed_front (suc k) (x ∷ xs) ys h = rw (weighed_front k xs ys (omega arith))

-- the bytes of some signs and then of others are those of both
pub packed_append : (m n : ℕ) (xs ys : List ℕ) → length xs ≡ 8 * m → packed (m + n) (xs ++ ys) ≡ packed m xs ++ packed n ys
unfolding packed
packed_append zero n [] ys e = rw zero-add
packed_append zero n (x ∷ xs) ys e = absurd (omega arith)
packed_append (suc m) n xs ys e =
    let eight : 8 ≤ length xs = omega arith in
    rw (suc-add m n, weighed_front 8 xs ys eight, drop-append-le 8 xs ys eight)
    (rw (packed_append m n (drop 8 xs) ys (omega (arith, length-drop 8 xs))))

-- the bytes look only at their own signs
pub packed_front : (n : ℕ) (xs ys : List ℕ) → length xs ≡ 8 * n → packed n (xs ++ ys) ≡ packed n xs
unfolding packed
packed_front n xs ys e = rw (add-zero, append-nil) at (packed_append n 0 xs ys e)

-- one byte more
pub packed_more : (k : ℕ) (s : List ℕ)
    → packed (k + 1) (taken (8 * (k + 1)) s) ≡ packed k (taken (8 * k) s) ++ (weighed 8 (taken 8 (behind (8 * k) s)) ∷ [])
unfolding packed
packed_more k s =
    let next : 8 * (k + 1) ≡ 8 * k + 8 = omega arith in
    rw (next, taken_add (8 * k) 8 s) (packed_append k 1 (taken (8 * k) s) (taken 8 (behind (8 * k) s)) (taken_length (8 * k) s))

-- the top line is the last of the picture
pub shown_more : (n y : ℕ) (s : List ℕ)
    → shown (8 * n) (suc y) (taken (8 * n + y * (8 * n)) s)
    ≡ shown (8 * n) y (taken (y * (8 * n)) (behind (8 * n) s)) ++ packed n (taken (8 * n) s)
unfolding shown
shown_more n y s =
    let line = taken (8 * n) s in
    let below = taken (y * (8 * n)) (behind (8 * n) s) in
    let size = taken_length (8 * n) s in
    let bytes : 8 * n / 8 ≡ n = omega arith in
    rw (taken_add (8 * n) (y * (8 * n)) s, drop_at line below (8 * n) size, bytes, packed_front n line below size)
