-- The laws of the file of a picture: its text, piece behind piece, and how long it is.
-- Assumes nothing.
use mathlib.Core.Path.{◌≡◌, refl, sym, ap, ◌∙◌}
use mathlib.Core.List.{List, [], ◌∷◌, ◌++◌, append_assoc}
use Prim.Native.Nat.{ℕ, zero, suc, ◌+◌, ◌-◌, ◌*◌, ◌/◌, ◌%◌, ◌≤◌, ◌<◌}
use native.Mathlib.Nat.{zero-add, add-zero, suc-add, add-suc, suc-mul, zero-mul, mul_left_comm}
use native.Mathlib.Omega.{arith}
use lib.ListN.{length, get_or, take, drop, length-append, length-drop}
use lib.Seq.{length-take-le}
use Rattle.text.specs.Pieces.{line_feed}
use Rattle.text.specs.Numbers.{decimal, decimal_by}
use Rattle.picture.specs.Bit.{bit_at}
use Rattle.picture.specs.Dot.{dot_at}
use Rattle.parts.specs.declared.format.Format.{Format}
use Rattle.parts.specs.declared.format.Format.TheVariants.{Ef9366, FmatHigh, FmatLow}
use Rattle.parts.specs.Format.{width, height, bytes}
use Rattle.pbm.specs.File.{head, sign, signs, file_lines, body, file}
use Rattle.pbm.specs.Calls.{file_of}
use Rattle.pbm.specs.Working.Bytes.{eight_signs}

-- a part of the picture is as long as its bounds say
pub part_length : (a n : ℕ) (pic : List ℕ) → a + n ≤ length pic → length (take (a + n - a) (drop a pic)) ≡ n
part_length a n pic h =
    let size : a + n - a ≡ n = omega arith in
    rw size (length-take-le n (drop a pic) (omega (arith, length-drop a pic)))

-- of a byte's signs one more
pub next_sign : (v k : ℕ) → k < 8 → take (k + 1) (eight_signs v) ≡ take k (eight_signs v) ++ (sign (bit_at k v) ∷ [])
unfolding eight_signs
next_sign v zero h = refl
next_sign v (suc zero) h = refl
next_sign v (suc (suc zero)) h = refl
next_sign v (suc (suc (suc zero))) h = refl
next_sign v (suc (suc (suc (suc zero)))) h = refl
next_sign v (suc (suc (suc (suc (suc zero))))) h = refl
next_sign v (suc (suc (suc (suc (suc (suc zero)))))) h = refl
next_sign v (suc (suc (suc (suc (suc (suc (suc zero))))))) h = refl
next_sign v (suc (suc (suc (suc (suc (suc (suc (suc k)))))))) h = absurd (omega arith)

module _ (pic : List ℕ) where
  -- the signs of a run of dots and then of another are those of both
  pub signs_append : (d m n : ℕ) → signs pic d (m + n) ≡ signs pic d m ++ signs pic (d + m) n
  unfolding signs
  signs_append d zero n = rw (zero-add n, add-zero d)
  signs_append d (suc m) n = rw (suc-add m n, add-suc d m, ← suc-add d m) (rw (signs_append (suc d) m n))

  -- dot k of byte i is bit k of it
  pub byte_dot : (i k d : ℕ) → k < 8 → d ≡ 8 * i + k → dot_at pic d ≡ bit_at k (get_or pic i 0)
  unfolding dot_at
  byte_dot i k d h e =
      let byte : d / 8 ≡ i = omega arith in
      let bit : d % 8 ≡ k = omega arith in
      rw (byte, bit)

  -- so the signs of its dots are the byte's
  pub byte_signs : (i : ℕ) → signs pic (8 * i) 8 ≡ eight_signs (get_or pic i 0)
  unfolding signs eight_signs
  byte_signs i =
      rw (
        byte_dot i 0 (8 * i) (omega arith) (omega arith),
        byte_dot i 1 (suc (8 * i)) (omega arith) (omega arith),
        byte_dot i 2 (suc (suc (8 * i))) (omega arith) (omega arith),
        byte_dot i 3 (suc (suc (suc (8 * i)))) (omega arith) (omega arith),
        byte_dot i 4 (suc (suc (suc (suc (8 * i))))) (omega arith) (omega arith),
        byte_dot i 5 (suc (suc (suc (suc (suc (8 * i)))))) (omega arith) (omega arith),
        byte_dot i 6 (suc (suc (suc (suc (suc (suc (8 * i))))))) (omega arith) (omega arith),
        byte_dot i 7 (suc (suc (suc (suc (suc (suc (suc (8 * i)))))))) (omega arith) (omega arith),
      )

  -- one byte more, behind k bytes
  pub signs_byte : (k : ℕ) → signs pic 0 (8 * (k + 1)) ≡ signs pic 0 (8 * k) ++ eight_signs (get_or pic k 0)
  signs_byte k =
      let more : 8 * (k + 1) ≡ 8 * k + 8 = omega arith in
      rw more (signs_append 0 (8 * k) 8 ∙ rw (zero-add (8 * k), byte_signs k))

  -- one line more, behind k lines
  pub lines_more : (d k : ℕ) → file_lines pic d (suc k) ≡ file_lines pic d k ++ (signs pic (d + 64 * k) 64 ++ (line_feed ∷ []))
  unfolding file_lines
  lines_more d zero =
      let here : d ≡ d + 64 * zero = omega arith in
      ap (λ (e : ℕ). signs pic e 64 ++ (line_feed ∷ [])) here
  lines_more d (suc k) =
      let there : d + 64 + 64 * k ≡ d + 64 * suc k = omega arith in
      ap (λ (l : List ℕ). signs pic d 64 ++ (line_feed ∷ l)) (lines_more (d + 64) k)
      ∙ sym (append_assoc (signs pic d 64) (line_feed ∷ file_lines pic (d + 64) k) _)
      ∙ ap (λ (e : ℕ). file_lines pic d (suc k) ++ (signs pic e 64 ++ (line_feed ∷ []))) there

  -- the top line of y is the first, and the lines below it follow
  pub body_line : (n y z : ℕ) → y ≡ suc z → body (64 * n) y pic ≡ file_lines pic (8 * (z * (8 * n))) n ++ body (64 * n) z pic
  unfolding body
  body_line n y z e =
      let dot : z * (64 * n) + 0 ≡ 8 * (z * (8 * n)) = omega (arith, mul_left_comm z 64 n, mul_left_comm z 8 n) in
      let lines : 64 * n / 64 ≡ n = omega arith in
      rw (e, dot, lines)

  -- Lengths -----------------------------------------------------------------------------------------------------------

  -- a sign for each dot
  pub signs_length : (d n : ℕ) → length (signs pic d n) ≡ n
  unfolding signs
  signs_length d zero = refl
  signs_length d (suc n) = ap suc (signs_length (suc d) n)

  -- a line has its dots and its line feed
  pub line_length : (d : ℕ) → length (signs pic d 64 ++ (line_feed ∷ [])) ≡ 65
  line_length d = rw (length-append, signs_length)

  -- so for k lines
  pub lines_length : (d k : ℕ) → length (file_lines pic d k) ≡ 65 * k
  unfolding file_lines
  lines_length d zero = refl
  lines_length d (suc k) = rw length-append (omega (arith, signs_length d 64, lines_length (d + 64) k))

  -- and for y lines of the picture
  pub body_length : (n y : ℕ) → length (body (64 * n) y pic) ≡ y * (65 * n)
  unfolding body
  body_length n zero = sym (zero-mul (65 * n))
  body_length n (suc y) =
      rw (body_line n (suc y) y refl, length-append, lines_length, body_length n y) (omega (arith, suc-mul y (65 * n)))

-- a format's lines are whole lines of the file, its bytes are theirs and few enough, and its file is longer than any head
pub format_lines : (f : Format)
    → (64 * (width f / 64) ≡ width f)
    × ((0 < width f / 64) × (width f / 64 ≤ 8))
    × (bytes f % (8 * (width f / 64)) ≡ 0)
    × (bytes f / (8 * (width f / 64)) ≡ height f)
    × (4 ≤ height f * (65 * (width f / 64)))
unfolding width height bytes
format_lines Ef9366 = (refl, (omega arith, omega arith), refl, refl, omega arith)
format_lines FmatHigh = (refl, (omega arith, omega arith), refl, refl, omega arith)
format_lines FmatLow = (refl, (omega arith, omega arith), refl, refl, omega arith)

-- three signs for each side of the picture, and five more
pub head_length : (f : Format) → length (head (width f) (height f)) ≡ 11
unfolding width height head decimal decimal_by
head_length Ef9366 = refl
head_length FmatHigh = refl
head_length FmatLow = refl

-- how long the file is does not depend on the picture's dots
pub file_length : (f : Format) (pic : List ℕ) → length (file_of f pic) ≡ 11 + height f * (65 * (width f / 64))
unfolding file_of file
file_length f pic =
    let lines = body_length pic (width f / 64) (height f) in
    rw (length-append, head_length f) (ap (λ (k : ℕ). 11 + k) (rw (format_lines f).0 at lines))
