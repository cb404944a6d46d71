-- The whole output by the input's length, the whole of three pieces written one behind the other, and the buffer that it is
-- written into.
-- Assumes nothing.
use mathlib.Core.Path.{◌≡◌, sym, ap, ◌∙◌}
use mathlib.Core.List.{List, ◌++◌}
use Prim.Native.Nat.{ℕ, ◌≤◌, ◌<◌}
use native.Mathlib.Omega.{arith}
use lib.ListN.{length, length-take, take-append-drop}
use borrow.Author.Tests.{lt-ltb, le-ltb}
use Rattle.text.specs.Pieces.{lines_of}
use Rattle.text.specs.Wrote.{Wrote}
use Rattle.text.specs.declared.write.Writer.{Writer}
use Rattle.text.specs.Working.Writes.{Writes}
use Rattle.text.proofs.Laws.{writes_more}
use Rattle.panel.specs.Answer.{line_g, line_e}
use Rattle.panel.specs.Panel.{card, answers, shown, dot_lines, panel, longest, fitted, Gives}

-- past 65,536 bytes: only E, 0, 21
pub panel_long : (input : List ℕ) → 65536 < length input → panel input ≡ line_e 0 21
unfolding panel
panel_long input h = rw (lt-ltb 65536 (length input) h)

-- else G, the answers, and the lit dots
pub panel_played : (input : List ℕ) → length input ≤ 65536
    → panel input
    ≡ line_g ++ (answers 1 card (lines_of input) ++ dot_lines (shown card (lines_of input)).memory.picture 0 131072)
unfolding panel
panel_played input h = rw (le-ltb 65536 (length input) h)

-- a buffer that is long enough, with the output written at its start
pub gives_output : {input before after : List ℕ} {r : ℕ}
    → longest ≤ length before → Wrote before 0 (panel input) after r → Gives input before after r
unfolding fitted
gives_output {input} {before} {after} {r} long w =
    let whole = le-ltb (length before) longest long in
    let fits = sym (length-take r after) ∙ ap length w.bytes in
    record {
      count = rw whole (omega (arith, w.end));
      inside = omega (arith, fits, w.end, w.size);
      buffer = rw whole (sym (take-append-drop r after) ∙ rw (w.bytes, w.rest));
    }

-- one that is shorter, left alone
pub gives_nothing : {input before : List ℕ} → length before < longest → Gives input before before 0
unfolding fitted
gives_nothing {input} {before} short =
    let none = lt-ltb (length before) longest short in
    record { count = rw none; inside = omega arith; buffer = rw none }

module _ (input : List ℕ) (h : length input ≤ 65536) where
  pub all_written : {v a b w : Writer} {p : List ℕ} → Writes v line_g a
      → Writes a (answers 1 card (lines_of input)) b
      → p ≡ (shown card (lines_of input)).memory.picture
      → Writes b (dot_lines p 0 131072) w
      → Writes v (panel input) w
  all_written g l shows d = rw (panel_played input h) (writes_more g (writes_more l (rw shows at d)))
