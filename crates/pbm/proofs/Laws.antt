-- What is proved of plain PBM beyond the calls' own statements: reading what was written gives the same picture, also with any
-- other white space; the file tells pictures apart; and how long it is.
-- Assumes nothing.
use mathlib.Core.Path.{◌≡◌, refl, sym, ap, ◌∙◌}
use mathlib.Core.Bool.{true}
use mathlib.Core.List.{List, [], ◌∷◌, ◌++◌, append_assoc}
use Prim.Native.Nat.{ℕ, ◌*◌, ◌/◌}
use native.Mathlib.Nat.{mul_comm}
use native.Mathlib.Omega.{arith}
use borrow.Author.Tests.{eq-eqb}
use lib.ListN.{length}
use lib.Seq.{take_all}
use Rattle.basis.proofs.Cases.{and_parts}
use Rattle.text.specs.Pieces.{line_feed}
use Rattle.text.specs.Numbers.{decimal}
use Rattle.picture.specs.Dot.{Bytes}
use Rattle.parts.specs.declared.format.Format.{Format}
use Rattle.parts.specs.declared.format.Format.TheVariants.{Ef9366, FmatHigh, FmatLow}
use Rattle.parts.specs.Format.{width, height, bytes}
use Rattle.parts.specs.Refusal.{lowest}
use Rattle.pbm.specs.File.{blank, head, body, file}
use Rattle.pbm.specs.Contents.{is_white, taken, shown}
use Rattle.pbm.specs.Calls.{Outcome, settled, misfit, file_of, out_number, written_out, signs_for, in_number, read_in}
use Rattle.pbm.specs.Spaced.{Spacing, is_gap, are_gaps, parts, sound, line_signs, spread, spaced}
use Rattle.pbm.proofs.Files.{file_length, format_lines}
use Rattle.pbm.proofs.Gaps.{gap_taken, gap_part, spread_taken}
use Rattle.pbm.proofs.Settled.{write_accepted}
use Rattle.pbm.proofs.Opened.{Good, format_numbers, padded_whole, good_head}
use Rattle.pbm.proofs.Shown.{lines_dots, lines_signs_length, body_taken, lines_shown}

-- a picture read, and nothing refused
abbrev pub good : List ℕ → Outcome
good pic = record { number = 0; value = 0; memory = pic }

-- a format's lines are whole bytes
format_bytes : (f : Format) → (8 * (width f / 8) ≡ width f) × (bytes f ≡ height f * (width f / 8))
unfolding width height bytes
format_bytes Ef9366 = (refl, refl)
format_bytes FmatHigh = (refl, refl)
format_bytes FmatLow = (refl, refl)

module _ (f : Format) (pic : List ℕ) (small : Bytes pic) (size : length pic ≡ bytes f) where
  -- the signs of a picture show it
  signs_shown : shown (width f) (height f) (line_signs (width f) (height f) pic) ≡ pic
  signs_shown =
      let own : length pic ≡ height f * (width f / 8) = size ∙ (format_bytes f).1 in
      rw (format_bytes f).0 at (lines_shown pic small (width f / 8) (height f) (omega arith)) ∙ take_all (height f * (width f / 8)) pic (omega arith)

  -- a file with a good head whose signs are the picture's is read as it
  signs_read : {text left : List ℕ} (before : List ℕ) → length before ≡ bytes f → Good (width f) (height f) text left
      → taken (width f * height f) left ≡ line_signs (width f) (height f) pic → read_in f text before ≡ good pic
  unfolding read_in in_number settled misfit lowest signs_for
  signs_read before fits g e =
      rw (
        eq-eqb (length before) (bytes f) fits,
        g.opened,
        g.sized,
        g.dots,
        e,
        lines_dots pic (width f) (height f),
        signs_shown,
      )

  -- so many signs are asked for
  count : width f * height f ≡ length (line_signs (width f) (height f) pic)
  count = mul_comm (width f) (height f) ∙ sym (lines_signs_length pic (width f) (height f))

  -- Any white space between the parts of the file, and whatever follows the last dot: it is read as the picture
  pub spaced_read : (s : Spacing) (tail before : List ℕ) → sound s ≡ true → length before ≡ bytes f
      → read_in f (spaced s (width f) (height f) pic tail) before ≡ good pic
  unfolding sound spaced
  spaced_read s tail before e fits =
      let one = and_parts (parts s.first) _ e in
      let two = and_parts (parts s.second) _ one.1 in
      let three = and_parts (parts s.third) (are_gaps s.gaps) two.1 in
      let dots = line_signs (width f) (height f) pic in
      let rest = spread s.gaps dots tail in
      signs_read before fits
      (good_head s.first _ s.second _ s.third rest (width f) (height f) one.0 two.0 three.0
      (padded_whole s.width_zeros (width f) (format_numbers f).0)
      (padded_whole s.height_zeros (height f) (format_numbers f).1))
      (gap_taken (width f * height f) s.third rest (gap_part s.third three.0)
      ∙ ap (λ (n : ℕ). taken n rest) count
      ∙ spread_taken s.gaps dots tail three.1 (lines_dots pic (width f) (height f)))

  -- Reading what was written gives the same picture, whatever follows the last dot
  pub written_read : (tail before : List ℕ) → length before ≡ bytes f → read_in f (file_of f pic ++ tail) before ≡ good pic
  unfolding file_of file head parts is_gap is_white
  written_read tail before fits =
      let lines = (format_lines f).0 in
      let numbers = format_numbers f in
      let rest = body (width f) (height f) pic ++ tail in
      let text : file_of f pic ++ tail
      ≡ 80 ∷ 49 ∷ (line_feed ∷ []) ++ (decimal (width f) ++ ((blank ∷ []) ++ (decimal (height f) ++ ((line_feed ∷ []) ++ rest)))) =
      ap (λ (l : List ℕ). 80 ∷ 49 ∷ line_feed ∷ l)
      (append_assoc (decimal (width f) ++ (blank ∷ (decimal (height f) ++ (line_feed ∷ [])))) (body (width f) (height f) pic) tail
      ∙ append_assoc (decimal (width f)) (blank ∷ (decimal (height f) ++ (line_feed ∷ []))) rest
      ∙ ap (λ (l : List ℕ). decimal (width f) ++ (blank ∷ l)) (append_assoc (decimal (height f)) (line_feed ∷ []) rest)) in
      ap (λ (l : List ℕ). read_in f l before) text
      ∙ signs_read before fits
      (good_head (line_feed ∷ []) _ (blank ∷ []) _ (line_feed ∷ []) rest (width f) (height f) refl refl refl numbers.0 numbers.1)
      (gap_taken (width f * height f) (line_feed ∷ []) rest refl
      ∙ ap (λ (n : ℕ). taken n rest) (mul_comm (width f) (height f))
      ∙ rw lines at (body_taken pic (width f / 64) (height f) tail))

  -- So a picture that was written comes back from the buffer, whatever stood there
  pub written_back : (buffer before : List ℕ) → out_number f pic buffer ≡ 0 → length before ≡ bytes f
      → read_in f (written_out f pic buffer).memory before ≡ good pic
  written_back buffer before accepted fits =
      ap (λ (o : Outcome). read_in f o.memory before) (write_accepted f pic buffer accepted) ∙ written_read _ before fits

-- Two pictures with the same file are equal
pub same_file : (f : Format) (p q : List ℕ) → Bytes p → Bytes q → length p ≡ bytes f → length q ≡ bytes f → file_of f p ≡ file_of f q → p ≡ q
same_file f p q bp bq lp lq e =
    let read = written_read f p bp lp [] p lp in
    let other = written_read f q bq lq [] p lp in
    ap (λ (o : Outcome). o.memory) (sym read ∙ ap (λ (l : List ℕ). read_in f (l ++ []) p) e ∙ other)

-- How many bytes are written, whatever the picture
pub bytes_written : (pic : List ℕ)
    → (length (file_of Ef9366 pic) ≡ 133131) × (length (file_of FmatHigh pic) ≡ 266251) × (length (file_of FmatLow pic) ≡ 66571)
unfolding width height
bytes_written pic = (file_length Ef9366 pic, file_length FmatHigh pic, file_length FmatLow pic)
