-- The panel program: it plays a fresh EF9366 with a dark picture and an all-zero character table.
-- Assumes nothing.
use Rattle.std.specs.Prelude.{◌≡◌, ℕ, zero, suc, ◌/◌, ◌%◌, ◌≤◌, cond, List, [], ◌∷◌, ◌++◌, ltb, length, replicate, drop}
use Rattle.text.specs.Pieces.{lines_of}
use Rattle.picture.specs.Dot.{dot_at}
use Rattle.parts.specs.declared.format.Format.TheVariants.{Ef9366}
use Rattle.rules.specs.State.{fresh}
use Rattle.rules.specs.Figure.{tables}
use Rattle.rules.specs.Calls.{memory}
use Rattle.rules.specs.Card.{Card, W, R, T, VB, LP, outcome_of, next}
use Rattle.panel.specs.Record.{Record, Write, Read, Cycles, Blanking, Edge, Malformed}
use Rattle.panel.specs.Record.{record_of}
use Rattle.panel.specs.Answer.{line_g, line_r, line_t, line_e, line_p, answered}

unfoldable pub glyphs : List ℕ
glyphs = replicate 480 0

unfoldable pub dark : List ℕ
dark = replicate 16384 0

-- the card that the panel plays
unfoldable pub card : Card
card = record { state = fresh Ef9366; memory = memory dark; tables = tables glyphs }

-- the card after a record; a malformed line changes nothing
unfoldable pub card_after : Card → Record → Card
card_after c (Write a v) = next c (W a v)
card_after c (Read a) = next c (R a)
card_after c (Cycles n) = next c (T n)
card_after c (Blanking level) = next c (VB level)
card_after c (Edge h v) = next c (LP h v)
card_after c Malformed = c

-- what line k answers: a read and a grant their value, a refusal E, a malformed line E with 20
unfoldable pub answer_to : ℕ → Card → Record → List ℕ
answer_to k c (Write a v) = answered k (outcome_of c (W a v)).answer.number []
answer_to k c (Read a) = answered k (outcome_of c (R a)).answer.number (line_r a (outcome_of c (R a)).answer.value)
answer_to k c (Cycles n) = answered k (outcome_of c (T n)).answer.number (line_t (outcome_of c (T n)).answer.value)
answer_to k c (Blanking level) = answered k (outcome_of c (VB level)).answer.number []
answer_to k c (Edge h v) = answered k (outcome_of c (LP h v)).answer.number []
answer_to k c Malformed = line_e k 20

-- the answers to some lines, of which the first is line k, and the card at the end
unfoldable pub answers : ℕ → Card → List (List ℕ) → List ℕ
answers k c [] = []
answers k c (l ∷ ls) = answer_to k c (record_of l) ++ answers (suc k) (card_after c (record_of l)) ls

unfoldable pub shown : Card → List (List ℕ) → Card
shown c [] = c
shown c (l ∷ ls) = shown (card_after c (record_of l)) ls

-- one P line per lit dot of the k dots from d on: by y, then x
unfoldable pub dot_lines : List ℕ → ℕ → ℕ → List ℕ
dot_lines p d zero = []
dot_lines p d (suc k) = cond (dot_at p d) (line_p (d % 512) (d / 512)) [] ++ dot_lines p (suc d) k

-- the whole output; input past 65,536 bytes is only E, 0, 21
unfoldable pub panel : List ℕ → List ℕ
panel input =
    cond (ltb 65536 (length input)) (line_e 0 21)
    (line_g
    ++ (answers 1 card (lines_of input) ++ dot_lines (shown card (lines_of input)).memory.picture 0 131072))

-- the bytes of a lent buffer that hold every output: 7 for G, 11 for each line, 10 for each dot, room for a line in hand
abbrev pub longest : ℕ
longest = 2031648

-- what the panel writes into a lent buffer: the whole output, or nothing where the buffer is shorter than the longest
unfoldable pub fitted : List ℕ → List ℕ → List ℕ
fitted input before = cond (ltb (length before) longest) [] (panel input)

-- the form of the statement about the panel, which makes buffer after of buffer before: r is the length of what it writes, and
-- lies inside the buffer; that text stands at the start, and behind it every byte is as handed in
pub record Gives (input before after : List ℕ) (r : ℕ) : Type 0 where
  pub count : r ≡ length (fitted input before)
  pub inside : r ≤ length before
  pub buffer : after ≡ fitted input before ++ drop r before
