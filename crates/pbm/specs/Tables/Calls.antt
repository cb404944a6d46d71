-- Both calls said another way, by a format's own numbers, and examples of them. 48 and 49 are the signs 0 and 1, 10 is LF, 13 CR,
-- 35 #, 80 P.
-- Assumes nothing.
use Rattle.std.specs.Prelude.{ℕ, cond, Ok, Err, List, [], ◌∷◌, ◌++◌, eqb, ltb, length, replicate, take, drop}
use Rattle.basis.specs.Reading.{Reading, joined, told}
use Rattle.parts.specs.declared.format.Format.{Format}
use Rattle.parts.specs.declared.format.Format.TheVariants.{Ef9366, FmatHigh, FmatLow}
use Rattle.pbm.specs.File.{file}
use Rattle.pbm.specs.Contents.{opens, sized_as, from_dots, taken, are_dots, shown}
use Rattle.parts.specs.declared.refusal.Refusal.TheVariants.{ShortBuffer, BadDots}
use Rattle.pbm.specs.declared.answer.Answer.{Answer}
use Rattle.pbm.specs.Calls.{Outcome, refused, settled, misfit, file_of, out_number, written_out, signs_for, in_number, read_in, told as answered, told_read}
use Rattle.pbm.specs.Tables.Texts.{p1, n512, n256}

-- The calls by numbers ------------------------------------------------------------------------------------------------

-- writing a picture of w dots a line and h lines, which has n bytes, and its file m
unfoldable pub out_by : ℕ → ℕ → ℕ → ℕ → List ℕ → List ℕ → Outcome
out_by w h n m picture buffer =
    cond (eqb (length picture) n)
    (cond (ltb (length buffer) m) (refused 9 buffer)
    (record { number = 0; value = m; memory = file w h picture ++ drop m buffer }))
    (refused 2 buffer)

-- reading into such a picture, which has d dots
unfoldable pub in_by : ℕ → ℕ → ℕ → ℕ → List ℕ → List ℕ → Outcome
in_by w h n d text picture =
    cond (eqb (length picture) n)
    (cond (opens text)
    (cond (sized_as w h text)
    (cond (are_dots (taken d (from_dots text)))
    (record { number = 0; value = 0; memory = shown w h (taken d (from_dots text)) })
    (refused 12 picture))
    (refused 11 picture))
    (refused 10 picture))
    (refused 2 picture)

-- Outcomes ------------------------------------------------------------------------------------------------------------

-- an outcome as its number, its value and the memory left
unfoldable pub outcome : Outcome → List ℕ
outcome o = o.number ∷ o.value ∷ o.memory

-- an answer as C is told it: its number and its value
unfoldable pub answer_row : Answer → List ℕ
answer_row r = r.number ∷ r.value ∷ []

-- the three formats
unfoldable pub formats : List Format
formats = Ef9366 ∷ FmatHigh ∷ FmatLow ∷ []

-- f of each format
unfoldable pub over_formats : List Format → (Format → List ℕ) → List ℕ
over_formats [] f = []
over_formats (x ∷ xs) f = f x ++ over_formats xs f

unfoldable pub outcome_readings : List Reading
outcome_readings =
    -- accepted: the value, and the memory as written; refused: value 0, and the memory as before
    (outcome (settled 0 5 (1 ∷ 2 ∷ []) (3 ∷ 4 ∷ [])), 0 ∷ 5 ∷ 1 ∷ 2 ∷ [])
    ∷ (
      joined (λ (n : ℕ). outcome (settled n 5 (1 ∷ 2 ∷ []) (3 ∷ 4 ∷ []))) 1 12,
      joined (λ (n : ℕ). n ∷ 0 ∷ 3 ∷ 4 ∷ []) 1 12,
    )
    ∷ (outcome (refused 9 (3 ∷ 4 ∷ [])) ++ outcome (refused 21 []), 9 ∷ 0 ∷ 3 ∷ 4 ∷ 21 ∷ 0 ∷ [])
    -- told: number 0 and the value, which reading has not; a refusal's number and 0
    ∷ (answer_row (answered (Ok 5)) ++ answer_row (answered (Err ShortBuffer)), 0 ∷ 5 ∷ 9 ∷ 0 ∷ [])
    ∷ (answer_row (told_read (Ok tt)) ++ answer_row (told_read (Err BadDots)), 0 ∷ 0 ∷ 12 ∷ 0 ∷ [])
    -- 2: a picture of no bytes, or of one, fits no format
    ∷ (over_formats formats (λ (f : Format). told (misfit f []) ∷ told (misfit f (0 ∷ [])) ∷ []), replicate 6 1)
    -- the file's head
    ∷ (
      over_formats formats (λ (f : Format). take 11 (file_of f [])),
      p1 (10 ∷ n512 (32 ∷ n256 (10 ∷ p1 (10 ∷ n512 (32 ∷ n512 (10 ∷ p1 (10 ∷ n256 (32 ∷ n256 (10 ∷ []))))))))),
    )
    -- the signs that are to be its dots
    ∷ (take 4 (signs_for FmatLow (p1 (32 ∷ n256 (32 ∷ n256 (10 ∷ 48 ∷ 49 ∷ 32 ∷ 35 ∷ 99 ∷ 10 ∷ 49 ∷ []))))), 48 ∷ 49 ∷ 49 ∷ 0 ∷ [])
    ∷ []

-- Writing -------------------------------------------------------------------------------------------------------------

unfoldable pub out_readings : List Reading
out_readings =
    -- 2 first, whatever the buffer
    (over_formats formats (λ (f : Format). out_number f [] [] ∷ out_number f (0 ∷ []) (replicate 99 7) ∷ []), replicate 6 2)
    -- refused, it writes nothing and has value 0
    ∷ (outcome (written_out FmatLow (1 ∷ []) (3 ∷ 4 ∷ 5 ∷ [])), 2 ∷ 0 ∷ 3 ∷ 4 ∷ 5 ∷ [])
    ∷ []

-- Reading -------------------------------------------------------------------------------------------------------------

-- the number for a file, read into a picture that fits FMAT low
unfoldable pub given : List ℕ → List ℕ
given t = in_number FmatLow t (replicate 8192 7) ∷ []

-- P1, LF, 256 256, and what follows the height
unfoldable pub low : List ℕ → List ℕ
low t = p1 (10 ∷ n256 (32 ∷ n256 [])) ++ t

unfoldable pub in_readings : List Reading
in_readings =
    -- 2 first, whatever the file
    (over_formats formats (λ (f : Format). in_number f [] [] ∷ in_number f (low (10 ∷ [])) (7 ∷ []) ∷ []), replicate 6 2)
    -- 10: white space before P1; a letter between the numbers; a wrong width and no height
    ∷ (
      given (32 ∷ low (10 ∷ 48 ∷ 49 ∷ [])) ++ (given (p1 (10 ∷ n256 (120 ∷ n256 (10 ∷ 48 ∷ 49 ∷ []))))
          ++ given (p1 (10 ∷ 50 ∷ 53 ∷ 53 ∷ []))),
      10 ∷ 10 ∷ 10 ∷ [],
    )
    -- 11: dots written at once behind the height; 65792, which 16 bits would hold as 256; another height and a bad dot
    ∷ (
      given (low (48 ∷ 49 ∷ 48 ∷ 49 ∷ [])) ++ (given (p1 (10 ∷ 54 ∷ 53 ∷ 55 ∷ 57 ∷ 50 ∷ 32 ∷ n256 (10 ∷ 48 ∷ 49 ∷ [])))
          ++ given (p1 (10 ∷ n256 (32 ∷ 50 ∷ 53 ∷ 53 ∷ 10 ∷ 120 ∷ [])))),
      11 ∷ 11 ∷ 11 ∷ [],
    )
    -- 12: a bad character at once behind the height; VT between dots; dots missing, and one comment that hides them, which CR does
    -- not end
    ∷ (
      given (low (120 ∷ 48 ∷ 49 ∷ [])) ++ (given (low (10 ∷ 48 ∷ 49 ∷ 11 ∷ 48 ∷ 49 ∷ []))
          ++ (given (low (10 ∷ 48 ∷ 49 ∷ [])) ++ given (low (35 ∷ 13 ∷ 48 ∷ 49 ∷ [])))),
      12 ∷ 12 ∷ 12 ∷ 12 ∷ [],
    )
    -- a good head of another shape, whose dots are missing: # at once behind P1, CR LF, leading zeros
    ∷ (given (p1 (35 ∷ 97 ∷ 13 ∷ 10 ∷ 48 ∷ n256 (9 ∷ 35 ∷ 10 ∷ 48 ∷ 48 ∷ n256 (13 ∷ 10 ∷ [])))), 12 ∷ [])
    -- refused, it writes nothing and has value 0
    ∷ (outcome (read_in FmatLow [] (1 ∷ 2 ∷ 3 ∷ [])), 2 ∷ 0 ∷ 1 ∷ 2 ∷ 3 ∷ [])
    ∷ []
