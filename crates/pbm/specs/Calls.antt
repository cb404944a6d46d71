-- The two calls: a picture written as a file into a lent buffer, and a file read into a lent picture.
-- Assumes nothing.
use Rattle.std.specs.Prelude.{◌≡◌, ℕ, ◌*◌, Bool, cond, not, List, [], ◌∷◌, ◌++◌, eqb, ltb, length, drop, Result, Ok, Err}
use Rattle.parts.specs.declared.refusal.Refusal.{Refusal}
use Rattle.parts.specs.declared.format.Format.{Format}
use Rattle.parts.specs.Format.{width, height, bytes}
use Rattle.parts.specs.Refusal.{lowest, refusal_number}
use Rattle.pbm.specs.declared.answer.Answer.{Answer}
use Rattle.pbm.specs.File.{file}
use Rattle.pbm.specs.Contents.{opens, sized_as, from_dots, taken, are_dots, shown}

-- what a call answers, and what it leaves of the memory that it is lent to write: a buffer or a picture
pub record Outcome : Type 0 where
  pub number : ℕ
  pub value : ℕ
  pub memory : List ℕ

-- a refusal has value 0 and writes nothing
abbrev pub refused : ℕ → List ℕ → Outcome
refused number before = record { number = number; value = 0; memory = before }

-- the outcome of a call with a refusal number, or 0: accepted, it has a value and leaves after of before
unfoldable pub settled : ℕ → ℕ → List ℕ → List ℕ → Outcome
settled number value after before =
    cond (eqb number 0) (record { number = 0; value = value; memory = after }) (refused number before)

-- 2: the picture is not of the format's length
unfoldable pub misfit : Format → List ℕ → Bool
misfit f picture = not (eqb (length picture) (bytes f))

-- the file of a picture of format f
unfoldable pub file_of : Format → List ℕ → List ℕ
file_of f picture = file (width f) (height f) picture

-- writing: 2; 9, the buffer is short
unfoldable pub out_number : Format → List ℕ → List ℕ → ℕ
out_number f picture buffer = lowest ((2, misfit f picture) ∷ (9, ltb (length buffer) (length (file_of f picture))) ∷ [])

-- the file stands at the buffer's start, and later bytes stay; the value is the bytes written
unfoldable pub written_out : Format → List ℕ → List ℕ → Outcome
written_out f picture buffer =
    settled (out_number f picture buffer) (length (file_of f picture))
    (file_of f picture ++ drop (length (file_of f picture)) buffer)
    buffer

-- the signs of a file that are to be the dots of a picture of format f
unfoldable pub signs_for : Format → List ℕ → List ℕ
signs_for f text = taken (width f * height f) (from_dots text)

-- reading: 2; 10, no P1 or no two whole numbers after it; 11, the size differs; 12, a bad character before the last dot, or
-- dots missing
unfoldable pub in_number : Format → List ℕ → List ℕ → ℕ
in_number f text picture =
    lowest
    ((2, misfit f picture)
    ∷ (10, not (opens text))
    ∷ (11, not (sized_as (width f) (height f) text))
    ∷ (12, not (are_dots (signs_for f text)))
    ∷ [])

-- the picture is the one that the file shows; the value is 0
unfoldable pub read_in : Format → List ℕ → List ℕ → Outcome
read_in f text picture = settled (in_number f text picture) 0 (shown (width f) (height f) (signs_for f text)) picture

-- the answer of a call as C is told it: the refusal's number, or 0 and the value; reading has none
unfoldable pub told : Result ℕ Refusal → Answer
told (Ok value) = record { number = 0; value = value }
told (Err why) = record { number = refusal_number why; value = 0 }

unfoldable pub told_read : Result (Unit {0}) Refusal → Answer
told_read (Ok _) = told (Ok 0)
told_read (Err why) = told (Err why)

-- the form of the statements about both calls: r is the answer, and the lent memory is left as after
pub record Leaves (o : Outcome) (r : Answer) (after : List ℕ) : Type 0 where
  pub answers : r ≡ record { number = o.number; value = o.value }
  pub memory : after ≡ o.memory
