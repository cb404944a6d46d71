-- No output is longer than a buffer of the longest: at most 11 bytes for each line of the log, and 10 for each dot.
-- Assumes nothing.
use mathlib.Core.Bool.{◌&&◌}
use mathlib.Core.List.{List, [], ◌∷◌}
use Prim.Native.Nat.{ℕ, zero, suc, ◌+◌, ◌*◌, ◌/◌, ◌%◌, ◌≤◌, ◌<◌}
use native.Mathlib.Omega.{arith}
use lib.Dec.{eqb, leb, ltb}
use lib.ListN.{length, length-append}
use borrow.Author.Tests.{leb-true, ltb-false}
use Rattle.basis.proofs.Cases.{cond_case, and_parts}
use Rattle.text.specs.Pieces.{line_feed, attached, lines_of}
use Rattle.text.specs.Numbers.{is_number, number_from}
use Rattle.picture.specs.Dot.{dot_at}
use Rattle.rules.specs.Calls.{read_out, granted}
use Rattle.rules.specs.Card.{Card, outcome_of}
use Rattle.panel.specs.Record.{Record, Write, Read, Cycles, Blanking, Edge, Malformed}
use Rattle.panel.specs.Answer.{line_p, answered}
use Rattle.panel.specs.Record.{record_by, record_of}
use Rattle.panel.specs.Panel.{card, card_after, answer_to, answers, shown, dot_lines, panel, longest}
use Rattle.panel.proofs.LineLengths.{line_g_length, line_r_length, line_t_length, line_e_length, line_p_length}
use Rattle.panel.proofs.Answers.{written_small, read_out_small, granted_small, granted_value, blanked_small, struck_small}

-- a text has no more lines than bytes
attached_length : (b : ℕ) (ls : List (List ℕ)) → length (attached b ls) ≤ length ls + 1
unfolding attached
attached_length b [] = omega arith
attached_length b (l ∷ ls) = omega arith

pub lines_length : (bs : List ℕ) → length (lines_of bs) ≤ length bs
unfolding lines_of
lines_length [] = omega arith
lines_length (b ∷ bs) =
    cond_case (λ (ls : List (List ℕ)). length ls ≤ length (b ∷ bs)) (eqb b line_feed)
    (λ _. omega (arith, lines_length bs))
    (λ _. omega (arith, lines_length bs, attached_length b (lines_of bs)))

-- the cycles that a record grants are at most 65,535
grants_in : Record → ℕ
grants_in (Write a v) = 0
grants_in (Read a) = 0
grants_in (Cycles n) = n
grants_in (Blanking level) = 0
grants_in (Edge h v) = 0
grants_in Malformed = 0

grants_by : (l n : ℕ) (f g : List ℕ) → grants_in (record_by l n f g) ≤ 65535
unfolding record_by grants_in
grants_by l n f g =
    let Small : Record → Type 0 = λ r. grants_in r ≤ 65535 in
    cond_case Small (eqb l 87 && eqb n 3 && is_number 16 1 f && is_number 16 2 g) (λ _. omega arith)
    (λ _. cond_case Small (eqb l 82 && eqb n 2 && is_number 16 1 f) (λ _. omega arith)
    (λ _. cond_case Small (eqb l 84 && eqb n 2 && is_number 10 5 f && leb (number_from 10 0 f) 65535)
    (λ t. leb-true _ _ (and_parts (eqb l 84 && eqb n 2 && is_number 10 5 f) (leb (number_from 10 0 f) 65535) t).1)
    (λ _. cond_case Small (eqb l 86 && eqb n 2 && is_number 10 1 f && leb (number_from 10 0 f) 1) (λ _. omega arith)
    (λ _. cond_case Small (eqb l 76 && eqb n 3 && is_number 10 3 f && is_number 10 3 g && leb (number_from 10 0 f) 255 && leb (number_from 10 0 g) 255)
    (λ _. omega arith)
    (λ _. omega arith)))))

grants_most : (line : List ℕ) → grants_in (record_of line) ≤ 65535
unfolding record_of
grants_most line = grants_by _ _ _ _

module _ (k : ℕ) (line : k < 100000) where
  -- a call's text, or E
  answered_length : (n : ℕ) (text : List ℕ) → n ≤ 8 → length text ≤ 11 → length (answered k n text) ≤ 11
  unfolding answered
  answered_length n text small short =
      cond_case (λ (l : List ℕ). length l ≤ 11) (eqb n 0) (λ _. short) (λ _. line_e_length k n line (omega arith))

  -- line k answers at most 11 bytes
  answer_length : (c : Card) (r : Record) → grants_in r ≤ 65535 → length (answer_to k c r) ≤ 11
  unfolding answer_to outcome_of grants_in
  answer_length c (Write a v) h = answered_length _ [] (omega (arith, written_small c.state a v)) (omega arith)
  answer_length c (Read a) h =
      answered_length _ _ (read_out_small c.state a) (omega (arith, line_r_length a (read_out c.state a).value))
  answer_length c (Cycles n) h =
      let value = (granted c.state n c.memory c.tables).answer.value in
      let most : value < 100000 = omega (arith, granted_value c.state n c.memory c.tables, h) in
      answered_length _ _ (granted_small c.state n c.memory c.tables) (omega (arith, line_t_length value most))
  answer_length c (Blanking level) h = answered_length _ [] (blanked_small c.state level c.memory) (omega arith)
  answer_length c (Edge a v) h = answered_length _ [] (struck_small c.state a v) (omega arith)
  answer_length c Malformed h = line_e_length k 20 line (omega arith)

-- so do all from line k on
answers_length : (k : ℕ) (c : Card) (ls : List (List ℕ)) → k + length ls ≤ 100000 → length (answers k c ls) ≤ 11 * length ls
unfolding answers
answers_length k c [] h = omega arith
answers_length k c (l ∷ ls) h =
    rw length-append
    (omega (
      arith,
      answer_length k (omega arith) c (record_of l) (grants_most l),
      answers_length (suc k) (card_after c (record_of l)) ls (omega arith),
    ))

-- a dot takes at most 10
dots_length : (p : List ℕ) (d k : ℕ) → d + k ≤ 131072 → length (dot_lines p d k) ≤ 10 * k
unfolding dot_lines
dots_length p d zero h = omega arith
dots_length p d (suc k) h =
    let here =
    cond_case (λ (l : List ℕ). length l ≤ 10) (dot_at p d) {x = line_p (d % 512) (d / 512)} {y = []}
    (λ _. line_p_length (d % 512) (d / 512) (omega arith) (omega arith))
    (λ _. omega arith) in
    rw length-append (omega (arith, here, dots_length p (suc d) k (omega arith)))

pub panel_longest : (input : List ℕ) → length (panel input) ≤ longest
unfolding panel
panel_longest input =
    cond_case (λ (l : List ℕ). length l ≤ longest) (ltb 65536 (length input))
    (λ _. omega (arith, line_e_length 0 21 (omega arith) (omega arith)))
    (λ t.
    let most = ltb-false 65536 (length input) t in
    let lines = lines_length input in
    let all = answers_length 1 card (lines_of input) (omega (arith, most, lines)) in
    let dots = dots_length (shown card (lines_of input)).memory.picture 0 131072 (omega arith) in
    rw (length-append, length-append) (omega (arith, line_g_length, most, lines, all, dots)))
