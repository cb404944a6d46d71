-- The signs of a file looked through, and shown in a picture.
-- Assumes nothing.
use mathlib.Core.Path.{◌≡◌, refl, sym, ap, ◌∙◌}
use mathlib.Core.Bool.{true, false, ◌&&◌}
use mathlib.Core.List.{List, [], ◌∷◌, ◌++◌, append_assoc, append-nil}
use Prim.Native.Nat.{ℕ, suc, ◌+◌, ◌-◌, ◌*◌, ◌≤◌, ◌<◌}
use native.Mathlib.Nat.{add_comm, suc-mul, mul-le-mul_right}
use native.Mathlib.Omega.{arith}
use lib.ListN.{length, set, take, drop, drop_of_length-le, length-set}
use lib.Seq.{drop-drop, drop_at, length-take-le}
use borrow.Rule.Slice.PartMut.{put_mid}
use Rattle.std.proofs.lemmas.List.{take_all, take_more_set}
use Rattle.pbm.specs.Contents.{taken, are_dots, weighed, packed, shown}
use Rattle.pbm.specs.Working.Left.{behind}
use Rattle.pbm.specs.Working.Eights.{Eight}
use Rattle.pbm.proofs.Files.{part_length}
use Rattle.pbm.proofs.Taking.{dots_add, dots_parts, behind_add, packed_more, shown_more}

-- Looked through ------------------------------------------------------------------------------------------------------

-- of eight signs for each of n bytes those for done bytes are dots; the others stand in what is left
pub record Looked (s : List ℕ) (n : ℕ) (rest : List ℕ) (done : ℕ) : Type 0 where
  pub few : done ≤ n
  pub dots : are_dots (taken (8 * n) s) ≡ are_dots (taken (8 * (n - done)) rest)

pub looked_none : (s : List ℕ) (n : ℕ) → Looked s n s 0
looked_none s n =
    let all : n - 0 ≡ n = omega arith in
    record { few = omega arith; dots = rw all }

module _ {s rest : List ℕ} {n done : ℕ} (l : Looked s n rest done) (h : done < n) where
  next : are_dots (taken (8 * n) s) ≡ are_dots (taken 8 rest) && are_dots (taken (8 * (n - (done + 1))) (behind 8 rest))
  next =
      let later : 8 * (n - done) ≡ 8 + 8 * (n - (done + 1)) = omega arith in
      l.dots ∙ rw later (dots_add 8 (8 * (n - (done + 1))) rest)

  -- the next eight are not
  pub looked_bad : are_dots (taken 8 rest) ≡ false → are_dots (taken (8 * n) s) ≡ false
  looked_bad b = next ∙ rw b

  -- they are
  pub looked_more : {byte : ℕ} {left : List ℕ} → Eight rest byte left → Looked s n left (done + 1)
  looked_more e = record { few = omega arith; dots = next ∙ rw (e.dots, e.left) }

-- none is left
pub looked_all : {s rest : List ℕ} {n done : ℕ} → n ≤ done → Looked s n rest done → are_dots (taken (8 * n) s) ≡ true
unfolding taken are_dots
looked_all {n = n} {done = done} h l =
    let none : 8 * (n - done) ≡ 0 = omega arith in
    rw none at l.dots

-- A line --------------------------------------------------------------------------------------------------------------

-- of a line of n bytes the first k are shown
pub record Lined (s : List ℕ) (n : ℕ) (line rest : List ℕ) (k : ℕ) : Type 0 where
  pub size : length line ≡ n
  pub shows : take k line ≡ packed k (taken (8 * k) s)
  pub left : rest ≡ behind (8 * k) s

pub lined_none : (s line : List ℕ) (n : ℕ) → length line ≡ n → Lined s n line s 0
unfolding packed behind
lined_none s line n e = record { size = e; shows = refl; left = refl }

module _ {s line rest : List ℕ} {n k : ℕ} (l : Lined s n line rest k) where
  -- the next eight signs are dots, where all of them are
  pub lined_dots : k < n → are_dots (taken (8 * n) s) ≡ true → are_dots (taken 8 rest) ≡ true
  lined_dots h d =
      let m = 8 * (n - (k + 1)) in
      let all : 8 * n ≡ 8 * k + (8 + m) = omega arith in
      let others = (dots_parts (8 * k) (8 + m) s (rw all at d)).1 in
      rw l.left (dots_parts 8 m (behind (8 * k) s) others).0

  pub lined_more : {byte : ℕ} {left : List ℕ} → k < n → Eight rest byte left → Lined s n (set line k byte) left (k + 1)
  lined_more {byte} {left} h e =
      let next : 8 * (k + 1) ≡ 8 * k + 8 = omega arith in
      let eight : byte ≡ weighed 8 (taken 8 (behind (8 * k) s)) = rw l.left at e.shows in
      record {
        size = length-set line k byte ∙ l.size;
        shows =
            take_more_set line k byte (omega (arith, l.size))
            ∙ rw (packed_more k s, ← eight) (ap (λ (xs : List ℕ). xs ++ byte ∷ []) l.shows);
        left = rw (next, behind_add (8 * k) 8 s, ← l.left) e.left;
      }

  pub lined_all : n ≤ k → k ≤ n → (line ≡ packed n (taken (8 * n) s)) × (rest ≡ behind (8 * n) s)
  lined_all h g =
      let all : k ≡ n = omega arith in
      (sym (take_all n line (omega (arith, l.size))) ∙ (rw all at l.shows), rw all at l.left)

-- The picture ---------------------------------------------------------------------------------------------------------

-- of h lines of n bytes all but the y lowest are in the picture; the signs of the others stand in what is left
pub record Showing (s : List ℕ) (n h : ℕ) (pic rest : List ℕ) (y : ℕ) : Type 0 where
  pub few : y ≤ h
  pub dots : are_dots (taken (y * (8 * n)) rest) ≡ true
  pub picture : shown (8 * n) h (taken (h * (8 * n)) s) ≡ shown (8 * n) y (taken (y * (8 * n)) rest) ++ drop (y * n) pic

pub showing_none : (s pic : List ℕ) (n h : ℕ) → length pic ≡ h * n → are_dots (taken (h * (8 * n)) s) ≡ true
    → Showing s n h pic s h
showing_none s pic n h size d =
    record { few = omega arith; dots = d; picture = sym (rw (drop_of_length-le pic {i = h * n} (omega arith), append-nil)) }

module _ {s pic rest : List ℕ} {n h y : ℕ} (t : Showing s n h pic rest y) (size : length pic ≡ h * n) (l : 0 < y) where
  next_line : y ≡ suc (y - 1)
  next_line = omega arith

  times : (m : ℕ) → y * m ≡ (y - 1) * m + m
  times m = ap (λ (k : ℕ). k * m) next_line ∙ suc-mul (y - 1) m

  line : y * (8 * n) ≡ 8 * n + (y - 1) * (8 * n)
  line = times (8 * n) ∙ add_comm ((y - 1) * (8 * n)) (8 * n)

  parts : (are_dots (taken (8 * n) rest) ≡ true) × (are_dots (taken ((y - 1) * (8 * n)) (behind (8 * n) rest)) ≡ true)
  parts = dots_parts (8 * n) ((y - 1) * (8 * n)) rest (rw line at t.dots)

  -- the next line lies in the picture
  pub showing_fits : (y - 1) * n + n ≤ length pic
  showing_fits = omega (arith, size, times n, mul-le-mul_right n t.few)

  pub showing_part : length (take ((y - 1) * n + n - (y - 1) * n) (drop ((y - 1) * n) pic)) ≡ n
  showing_part = part_length ((y - 1) * n) n pic showing_fits

  -- its signs are dots
  pub showing_dots : are_dots (taken (8 * n) rest) ≡ true
  showing_dots = parts.0

  -- it is shown
  pub showing_more : {shows left : List ℕ} → shows ≡ packed n (taken (8 * n) rest) → left ≡ behind (8 * n) rest
      → Showing s n h (put_mid ((y - 1) * n) ((y - 1) * n + n - (y - 1) * n) pic shows) left (y - 1)
  showing_more {shows} {left} e g =
      let a = (y - 1) * n in
      let below = shown (8 * n) (y - 1) (taken ((y - 1) * (8 * n)) (behind (8 * n) rest)) in
      let split : shown (8 * n) y (taken (y * (8 * n)) rest) ≡ below ++ packed n (taken (8 * n) rest) =
      ap (λ (m : ℕ). shown (8 * n) y (taken m rest)) line
      ∙ ap (λ (m : ℕ). shown (8 * n) m (taken (8 * n + (y - 1) * (8 * n)) rest)) next_line
      ∙ shown_more n (y - 1) rest
      in
      let others : drop (a + n - a) (drop a pic) ≡ drop (y * n) pic =
      drop-drop (a + n - a) a pic ∙ ap (λ (m : ℕ). drop m pic) (omega (arith, times n))
      in
      let after : drop a (put_mid a (a + n - a) pic shows) ≡ shows ++ drop (y * n) pic =
      drop_at (take a pic) (shows ++ drop (a + n - a) (drop a pic)) a (length-take-le a pic (omega (arith, showing_fits)))
      ∙ ap (λ (xs : List ℕ). shows ++ xs) others
      in
      record {
        few = omega (arith, t.few);
        dots = rw g parts.1;
        picture = t.picture ∙ rw (split, g, after, e) (append_assoc below (packed n (taken (8 * n) rest)) (drop (y * n) pic));
      }

-- all of it
pub showing_all : {s pic rest : List ℕ} {n h y : ℕ} → y ≤ 0 → Showing s n h pic rest y
    → pic ≡ shown (8 * n) h (taken (h * (8 * n)) s)
unfolding shown
showing_all {n = n} {y = y} z t =
    let none : y ≡ 0 = omega arith in
    let start : 0 * n ≡ 0 = omega arith in
    sym (rw (none, start) at t.picture)
