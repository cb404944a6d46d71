-- The cases of reading a file, each with its answer.
-- Assumes nothing.
use mathlib.Core.Path.{◌≡◌, refl, ◌∙◌}
use mathlib.Core.Bool.{Bool, true, false, cond, not}
use mathlib.Core.List.{List, [], ◌∷◌}
use Prim.Native.Nat.{ℕ, ◌*◌, ◌/◌}
use borrow.Author.Tests.{eq-eqb, ne_eqb}
use lib.Dec.{eqb}
use lib.ListN.{length}
use Rattle.std.proofs.Common.{Ok, Err}
use Rattle.parts.specs.declared.format.Format.{Format}
use Rattle.parts.specs.declared.format.Format.TheVariants.{Ef9366, FmatHigh, FmatLow}
use Rattle.parts.specs.Format.{width, height, bytes}
use Rattle.parts.specs.declared.refusal.Refusal.{Refusal}
use Rattle.parts.specs.declared.refusal.Refusal.TheVariants.{BadPicture, BadDots}
use Rattle.parts.specs.Refusal.{lowest, refusal_number}
use Rattle.parts.proofs.Laws.{number_some}
use Rattle.pbm.specs.declared.answer.Answer.{Answer}
use Rattle.pbm.specs.Contents.{opens, sized_as, from_dots, taken, are_dots, shown}
use Rattle.pbm.specs.Calls.{settled, misfit, signs_for, in_number, read_in, told, told_read, Leaves}
use Rattle.pbm.specs.Working.Heads.{head_number}

-- every format's lines are whole bytes, and its memory has a bit for each dot
line_bits : (f : Format) → 8 * (width f / 8) ≡ width f
unfolding width
line_bits Ef9366 = refl
line_bits FmatHigh = refl
line_bits FmatLow = refl

lines_bits : (f : Format) → height f * (8 * (width f / 8)) ≡ width f * height f
unfolding width height
lines_bits Ef9366 = refl
lines_bits FmatHigh = refl
lines_bits FmatLow = refl

lines_bytes : (f : Format) → bytes f ≡ height f * (width f / 8)
unfolding bytes width height
lines_bytes Ef9366 = refl
lines_bytes FmatHigh = refl
lines_bytes FmatLow = refl

bytes_bits : (f : Format) → 8 * bytes f ≡ width f * height f
unfolding bytes width height
bytes_bits Ef9366 = refl
bytes_bits FmatHigh = refl
bytes_bits FmatLow = refl

-- the head's number is the lowest where it is one, and else the dots' is
behind_head : (a b c : Bool)
    → lowest ((10, a) ∷ (11, b) ∷ (12, c) ∷ [])
    ≡ cond (eqb (lowest ((10, a) ∷ (11, b) ∷ [])) 0) (cond c 12 0) (lowest ((10, a) ∷ (11, b) ∷ []))
unfolding lowest
behind_head true b c = refl
behind_head false true c = refl
behind_head false false c = refl

-- each refusal has a number
refused : (why : Refusal) → eqb (refusal_number why) 0 ≡ false
refused why = ne_eqb (refusal_number why) 0 (number_some why)

-- a call that is refused answers so and leaves all as it was
pub told_refused : (why : Refusal) (value : ℕ) (after before : List ℕ)
    → Leaves (settled (refusal_number why) value after before) (told (Err why)) before
unfolding settled told
told_refused why value after before = rw (refused why) (record { answers = refl; memory = refl })

module _ (f : Format) (text picture : List ℕ) where
  -- 2
  pub wrong_length : (length picture ≡ bytes f → ⊥) → Leaves (read_in f text picture) (told_read (Err BadPicture)) picture
  unfolding read_in in_number misfit lowest told_read refusal_number
  wrong_length n = rw (ne_eqb (length picture) (bytes f) n) (told_refused BadPicture 0 _ picture)

  -- the picture is of the format's length
  module _ {w h : ℕ} (size : length picture ≡ bytes f) (wide : w ≡ width f) (high : h ≡ height f) where
    number : {k : ℕ} → head_number w h text ≡ k
        → in_number f text picture ≡ cond (eqb k 0) (cond (not (are_dots (signs_for f text))) 12 0) k
    unfolding in_number misfit lowest head_number
    number e =
        rw (eq-eqb (length picture) (bytes f) size, ← e, wide, high)
        (behind_head (not (opens text)) (not (sized_as (width f) (height f) text)) (not (are_dots (signs_for f text))))

    -- 10 or 11
    pub wrong_head : {k : ℕ} {r : Answer} → head_number w h text ≡ k → (k ≡ 0 → ⊥) → r ≡ record { number = k; value = 0 }
        → Leaves (read_in f text picture) r picture
    unfolding read_in settled
    wrong_head {k} e n is =
        let no = ne_eqb k 0 n in
        let same : in_number f text picture ≡ k = number e ∙ rw no in
        rw (same, no) (record { answers = is; memory = refl })

    pub head_refused : (why : Refusal) → head_number w h text ≡ refusal_number why
        → Leaves (read_in f text picture) (told_read (Err why)) picture
    unfolding told_read told
    head_refused why e = wrong_head e (number_some why) refl

    -- the signs stand behind the head
    module _ {dots : List ℕ} (head : (head_number w h text ≡ 0) × (dots ≡ from_dots text)) where
      there : {m : ℕ} → m ≡ width f * height f → taken m dots ≡ signs_for f text
      unfolding signs_for
      there e = rw (e, head.1)

      there_bytes : taken (8 * length picture) dots ≡ signs_for f text
      there_bytes = there (rw size (bytes_bits f))

      -- 12
      pub wrong_dots : are_dots (taken (8 * length picture) dots) ≡ false
          → Leaves (read_in f text picture) (told_read (Err BadDots)) picture
      unfolding read_in told_read refusal_number
      wrong_dots b =
          let same : in_number f text picture ≡ 12 = number head.0 ∙ rw (← there_bytes, b) in
          rw same (told_refused BadDots 0 _ picture)

      module _ {n k : ℕ} (across : n ≡ width f / 8) (lines : k ≡ height f)
          (good : are_dots (taken (8 * length picture) dots) ≡ true) where
        there_lines : taken (k * (8 * n)) dots ≡ signs_for f text
        there_lines = there (rw (across, lines) (lines_bits f))

        -- the lines are the picture, and their signs are dots
        pub lines_good : (length picture ≡ k * n) × (are_dots (taken (k * (8 * n)) dots) ≡ true)
        lines_good = (rw (across, lines) (size ∙ lines_bytes f), rw (there_lines, ← there_bytes) good)

        -- it is shown
        pub all_right : {after : List ℕ} → after ≡ shown (8 * n) k (taken (k * (8 * n)) dots)
            → Leaves (read_in f text picture) (told_read (Ok tt)) after
        unfolding read_in settled told told_read
        all_right p =
            let same : in_number f text picture ≡ 0 = number head.0 ∙ rw (← there_bytes, good) in
            rw same (record { answers = refl; memory = p ∙ rw (there_lines, across, lines, line_bits f) })
