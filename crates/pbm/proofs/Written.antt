-- What the writing call leaves, by its cases, and what the steps of the accepted one have room for.
-- Assumes nothing.
use mathlib.Core.Path.{◌≡◌, refl, sym, ◌∙◌}
use mathlib.Core.List.{List}
use Prim.Native.Nat.{ℕ, ◌+◌, ◌*◌, ◌/◌, ◌%◌, ◌≤◌, ◌<◌}
use native.Mathlib.Omega.{arith}
use lib.ListN.{length, take-append-drop}
use Rattle.std.proofs.Common.{Ok, Err}
use borrow.Author.Tests.{eq-eqb, ne_eqb, lt-ltb, le-ltb}
use Rattle.text.specs.Wrote.{Wrote}
use Rattle.text.proofs.Laws.{wrote_more}
use Rattle.parts.specs.declared.format.Format.{Format}
use Rattle.parts.specs.Format.{width, height, bytes}
use Rattle.parts.specs.declared.refusal.Refusal.TheVariants.{BadPicture, ShortBuffer}
use Rattle.parts.specs.Refusal.{lowest, refusal_number}
use Rattle.pbm.specs.File.{head, body, file}
use Rattle.pbm.specs.Calls.{Leaves, settled, misfit, file_of, out_number, written_out, told}
use Rattle.pbm.proofs.Answers.{told_refused}
use Rattle.pbm.proofs.Files.{format_lines, head_length, file_length}

module _ (f : Format) (pic out : List ℕ) where
  -- 2: the test fails, and the lowest number is its
  pub leaves_misfit : (length pic ≡ bytes f → ⊥) → Leaves (written_out f pic out) (told (Err BadPicture)) out
  unfolding written_out out_number lowest misfit refusal_number
  leaves_misfit other = rw (ne_eqb (length pic) (bytes f) other) (told_refused BadPicture _ _ out)

  module _ (fits : length pic ≡ bytes f) where
    -- 9: the first test passes, the second fails
    pub leaves_short : length out < length (file_of f pic) → Leaves (written_out f pic out) (told (Err ShortBuffer)) out
    unfolding written_out out_number lowest misfit refusal_number
    leaves_short short =
        rw (eq-eqb (length pic) (bytes f) fits, lt-ltb (length out) (length (file_of f pic)) short)
        (told_refused ShortBuffer _ _ out)

    module _ (room : length (file_of f pic) ≤ length out) where
      -- a buffer for the file has room for any head
      pub head_room : 15 ≤ length out
      head_room = omega (arith, file_length f pic, (format_lines f).4)

      module _ {w h n a : ℕ} {b : List ℕ} (wide : w ≡ width f) (high : h ≡ height f) (across : n ≡ width f / 64)
          (v : Wrote out 0 (head w h) b a) where
        -- the picture has whole lines, and there is room for them behind the head
        pub body_lines : (0 < n) × (n ≤ 8) × (length pic % (8 * n) ≡ 0)
        body_lines = let of = format_lines f in rw (across, fits) (of.1.0, of.1.1, of.2)

        lines : length pic / (8 * n) ≡ height f
        lines = rw (across, fits) (format_lines f).3

        pub body_room : a + length pic / (8 * n) * (65 * n) ≤ length b
        body_room =
            let end : a ≡ 11 = v.end ∙ rw (wide, high, head_length f) in
            rw (lines, across) (omega (arith, file_length f pic, v.size))

        -- the head and then the lines are the file
        file_wrote : {c : List ℕ} {q : ℕ} → Wrote b a (body (64 * n) (length pic / (8 * n)) pic) c q → Wrote out 0 (file_of f pic) c q
        unfolding file_of file
        file_wrote u =
            let whole : 64 * n ≡ width f = rw across (format_lines f).0 in
            wrote_more (rw (wide, high) at v) (rw (lines, whole) at u)

        -- accepted: both tests pass, and the buffer is what was written and what was behind it
        pub leaves_file : {c : List ℕ} {q value : ℕ} → Wrote b a (body (64 * n) (length pic / (8 * n)) pic) c q → value ≡ length (file_of f pic)
            → Leaves (written_out f pic out) (told (Ok value)) c
        unfolding written_out settled out_number lowest misfit told
        leaves_file {c} {q} u size =
            let all = file_wrote u in
            let end : q ≡ length (file_of f pic) = omega (arith, all.end) in
            rw (eq-eqb (length pic) (bytes f) fits, le-ltb (length out) (length (file_of f pic)) room, size)
            (record { answers = refl; memory = sym (take-append-drop q c) ∙ rw (all.bytes, all.rest, end) })
