-- The signs of a picture show the same picture, in its file and with any other white space.
-- Assumes nothing.
use mathlib.Core.Path.{◌≡◌, refl, sym, ap, ◌∙◌}
use mathlib.Core.Bool.{Bool, true, false}
use mathlib.Core.List.{List, ◌∷◌, ◌++◌, append_assoc}
use Prim.Native.Nat.{ℕ, zero, suc, ◌+◌, ◌*◌, ◌/◌, ◌≤◌, ◌<◌}
use native.Mathlib.Nat.{zero-add, suc-mul, zero-mul, mul_left_comm, mul-div_cancel_left}
use native.Mathlib.Omega.{arith}
use borrow.Author.Tests.{eqb-true}
use lib.Dec.{T, eqb}
use lib.ListN.{length, get_or, take, drop, length-append}
use lib.Seq.{take-add, drop-cons, drop_at}
use Rattle.basis.proofs.Cases.{passed as met}
use Rattle.basis.proofs.Table.{passes}
use Rattle.picture.specs.Dot.{dot_at, Bytes}
use Rattle.text.specs.Pieces.{line_feed}
use Rattle.pbm.specs.File.{sign, signs, file_lines, body}
use Rattle.pbm.specs.Contents.{is_white, taken, is_dot, are_dots, weighed, packed, shown}
use Rattle.pbm.specs.Spaced.{line_signs}
use Rattle.pbm.specs.Working.Bytes.{eight_signs}
use Rattle.pbm.proofs.Files.{signs_append, byte_signs, signs_length}
use Rattle.pbm.proofs.Passing.{passed_white}
use Rattle.pbm.proofs.Taking.{taken_add, taken_dots, behind_dots, dots_append, weighed_front}

-- Every sign is a dot -------------------------------------------------------------------------------------------------

sign_dot : (b : Bool) → is_dot (sign b) ≡ true
unfolding is_dot sign
sign_dot true = refl
sign_dot false = refl

module _ (pic : List ℕ) where
  pub signs_dots : (d n : ℕ) → are_dots (signs pic d n) ≡ true
  unfolding signs are_dots
  signs_dots d zero = refl
  signs_dots d (suc n) = rw (sign_dot (dot_at pic d), signs_dots (suc d) n)

  pub lines_dots : (w y : ℕ) → are_dots (line_signs w y pic) ≡ true
  unfolding line_signs are_dots
  lines_dots w zero = refl
  lines_dots w (suc y) =
      dots_append (signs pic (y * w + 0) w) (line_signs w y pic) ∙ rw (signs_dots (y * w + 0) w, lines_dots w y)

  pub lines_signs_length : (w y : ℕ) → length (line_signs w y pic) ≡ y * w
  unfolding line_signs
  lines_signs_length w zero = sym (zero-mul w)
  lines_signs_length w (suc y) =
      length-append (signs pic (y * w + 0) w) (line_signs w y pic)
      ∙ rw (signs_length pic (y * w + 0) w, lines_signs_length w y, suc-mul y w) (omega arith)

  -- The file's signs ----------------------------------------------------------------------------------------------------

  -- dots and then more
  pub dots_taken : (d n m : ℕ) (s : List ℕ) → taken (n + m) (signs pic d n ++ s) ≡ signs pic d n ++ taken m s
  dots_taken d n m s =
      let dots = signs_dots d n in
      let size = signs_length pic d n in
      taken_add n m (signs pic d n ++ s)
      ∙ rw (rw size at (taken_dots (signs pic d n) s dots), rw size at (behind_dots (signs pic d n) s dots))

  -- a line feed is passed over
  feed_taken : (m : ℕ) (s : List ℕ) → taken m (line_feed ∷ s) ≡ taken m s
  unfolding taken is_white
  feed_taken zero s = refl
  feed_taken (suc m) s = rw (passed_white line_feed s refl)

  -- the dots of k lines of the file
  lines_taken : (k d m : ℕ) (s : List ℕ) → taken (64 * k + m) (file_lines pic d k ++ s) ≡ signs pic d (64 * k) ++ taken m s
  unfolding file_lines signs
  lines_taken zero d m s = ap (λ (n : ℕ). taken n s) (zero-add m)
  lines_taken (suc k) d m s =
      let more : 64 * suc k ≡ 64 + 64 * k = omega arith in
      let sum : 64 * suc k + m ≡ 64 + (64 * k + m) = omega arith in
      ap (λ (n : ℕ). taken n (file_lines pic d (suc k) ++ s)) sum
      ∙ ap (taken (64 + (64 * k + m))) (append_assoc (signs pic d 64) (line_feed ∷ file_lines pic (d + 64) k) s)
      ∙ dots_taken d 64 (64 * k + m) (line_feed ∷ (file_lines pic (d + 64) k ++ s))
      ∙ ap (λ (l : List ℕ). signs pic d 64 ++ l) (feed_taken (64 * k + m) (file_lines pic (d + 64) k ++ s) ∙ lines_taken k (d + 64) m s)
      ∙ sym (append_assoc (signs pic d 64) (signs pic (d + 64) (64 * k)) (taken m s))
      ∙ ap (λ (l : List ℕ). l ++ taken m s) (sym (signs_append pic d 64 (64 * k)))
      ∙ ap (λ (n : ℕ). signs pic d n ++ taken m s) (sym more)

  -- the dots of y lines of the picture
  pub body_taken : (n y : ℕ) (tail : List ℕ) → taken (y * (64 * n)) (body (64 * n) y pic ++ tail) ≡ line_signs (64 * n) y pic
  unfolding body line_signs taken
  body_taken n zero tail = ap (λ (k : ℕ). taken k tail) (zero-mul (64 * n))
  body_taken n (suc y) tail =
      let lines : 64 * n / 64 ≡ n = omega arith in
      let sum : suc y * (64 * n) ≡ 64 * n + y * (64 * n) = omega (arith, suc-mul y (64 * n)) in
      rw (lines, sum, append_assoc) (lines_taken n (y * (64 * n) + 0) (y * (64 * n)) (body (64 * n) y pic ++ tail)
      ∙ ap (λ (l : List ℕ). signs pic (y * (64 * n) + 0) (64 * n) ++ l) (body_taken n y tail))

-- The picture that they show ------------------------------------------------------------------------------------------

-- a byte's signs weigh the byte: antt computes all 256
byte_tested : (v : ℕ) → v < 256 → T (eqb (weighed 8 (eight_signs v)) v)
unfolding weighed eight_signs sign
byte_tested = passes (λ v. eqb (weighed 8 (eight_signs v)) v) 256 tt

byte_weighed : (v : ℕ) (s : List ℕ) → v < 256 → weighed 8 (eight_signs v ++ s) ≡ v
unfolding eight_signs
byte_weighed v s h =
    weighed_front 8 (eight_signs v) s (omega arith)
    ∙ eqb-true (weighed 8 (eight_signs v)) v (met (eqb (weighed 8 (eight_signs v)) v) (byte_tested v h))

module _ (pic : List ℕ) (small : Bytes pic) where
  -- the signs of n bytes pack them
  pub signs_packed : (n i : ℕ) (s : List ℕ) → i + n ≤ length pic → packed n (signs pic (8 * i) (8 * n) ++ s) ≡ take n (drop i pic)
  unfolding packed eight_signs
  signs_packed zero i s h = refl
  signs_packed (suc n) i s h =
      let more : 8 * suc n ≡ 8 + 8 * n = omega arith in
      let next : 8 * i + 8 ≡ 8 * suc i = omega arith in
      let rest = signs pic (8 * suc i) (8 * n) ++ s in
      let text : signs pic (8 * i) (8 * suc n) ++ s ≡ eight_signs (get_or pic i 0) ++ rest =
      ap (λ (k : ℕ). signs pic (8 * i) k ++ s) more
      ∙ ap (λ (l : List ℕ). l ++ s) (signs_append pic (8 * i) 8 (8 * n))
      ∙ append_assoc (signs pic (8 * i) 8) (signs pic (8 * i + 8) (8 * n)) s
      ∙ rw (byte_signs pic i, next) in
      ap (packed (suc n)) text
      ∙ rw (byte_weighed (get_or pic i 0) rest (small i), drop_at (eight_signs (get_or pic i 0)) rest 8 refl)
      (ap (λ (l : List ℕ). get_or pic i 0 ∷ l) (signs_packed n (suc i) s (omega arith)))
      ∙ sym (ap (take (suc n)) (drop-cons pic i 0 (omega arith)))

  -- the signs of y lines of n bytes show them
  pub lines_shown : (n y : ℕ) → y * n ≤ length pic → shown (8 * n) y (line_signs (8 * n) y pic) ≡ take (y * n) pic
  unfolding shown line_signs
  lines_shown n zero h = ap (λ (k : ℕ). take k pic) (sym (zero-mul n))
  lines_shown n (suc y) h =
      let w = 8 * n in
      let own = signs pic (y * w + 0) w in
      let rest = line_signs w y pic in
      let sum : suc y * n ≡ y * n + n = suc-mul y n in
      let start : y * w + 0 ≡ 8 * (y * n) = omega (arith, mul_left_comm y 8 n) in
      let bytes : w / 8 ≡ n = mul-div_cancel_left n (omega arith) in
      let below : shown w y (drop w (own ++ rest)) ≡ take (y * n) pic =
      ap (shown w y) (drop_at own rest w (signs_length pic (y * w + 0) w)) ∙ lines_shown n y (omega arith) in
      let here : packed (w / 8) (own ++ rest) ≡ take n (drop (y * n) pic) =
      rw (bytes, start) (signs_packed n (y * n) rest (omega arith)) in
      rw (below, here) (sym (take-add (y * n) n pic)) ∙ ap (λ (k : ℕ). take k pic) (sym sum)
