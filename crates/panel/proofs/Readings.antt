-- The tables of readings hold: antt computes them. What is written into a lent buffer, and what a log may have, is read at its length.
-- Assumes nothing.
use mathlib.Core.Path.{◌≡◌, refl, ap, ◌∙◌}
use Prim.Native.Nat.{ℕ}
use mathlib.Core.Bool.{true, cond}
use mathlib.Core.List.{List, [], ◌++◌}
use lib.Dec.{ltb}
use lib.ListN.{length, drop}
use Rattle.basis.specs.Reading.{every}
use Rattle.text.specs.Pieces.{lines_of}
use Rattle.parts.specs.declared.format.Format.TheVariants.{Ef9366}
use Rattle.pbm.specs.File.{file}
use Rattle.pbm.specs.Calls.{Outcome, refused, written_out}
use Rattle.pbm.specs.Tables.Calls.{out_by}
use Rattle.pbm.proofs.Laws.{bytes_written}
use Rattle.pbm.proofs.Readings.{write_reading}
use Rattle.panel.specs.Panel.{dark, card, shown, dot_lines, panel, fitted}
use Rattle.panel.specs.Screen.{screen}
use Rattle.panel.specs.Tables.Example.{example, example_answers, example_picture}
use Rattle.panel.specs.Tables.Readings.{readings}
use Rattle.panel.specs.Tables.Computed.{answering, computed}

pub readings_hold : every readings ≡ true
unfolding computed
readings_hold = refl

-- the example whole: its answers, then the lines of its picture's 131,072 dots
pub example_played : panel example ≡ example_answers ++ dot_lines example_picture 0 131072
unfolding answering
example_played = refl

-- a buffer of 2,031,648 bytes takes the whole output; into one of a byte less nothing is written
pub fitted_reading : (input before : List ℕ) → length before ≡ 2031648 → fitted input before ≡ panel input
unfolding fitted
fitted_reading input before enough = ap (λ (n : ℕ). cond (ltb n 2031648) [] (panel input)) enough

pub unfitted_reading : (input before : List ℕ) → length before ≡ 2031647 → fitted input before ≡ []
unfolding fitted
unfitted_reading input before short = ap (λ (n : ℕ). cond (ltb n 2031648) [] (panel input)) short

-- The picture of a log as a file -------------------------------------------------------------------------------------

-- the picture that a log leaves
abbrev pictured : List ℕ → List ℕ
pictured input = (shown card (lines_of input)).memory.picture

-- into a buffer of 133,131 bytes the picture of a log of 65,536 bytes is written, and a log of a byte more is refused with 21; into
-- one of a byte less nothing is written, whatever the log
module _ (input buffer : List ℕ) where
  -- the call where the buffer has n bytes, a file m, and the log k
  abbrev by_lengths : ℕ → ℕ → ℕ → Outcome
  by_lengths n m k = cond (ltb n m) (refused 9 buffer) (cond (ltb 65536 k) (refused 21 buffer) (written_out Ef9366 (pictured input) buffer))

  screen_by : screen input buffer ≡ by_lengths (length buffer) 133131 (length input)
  unfolding screen
  screen_by = ap (λ (m : ℕ). by_lengths (length buffer) m (length input)) (bytes_written dark).0

  pub screen_reading : length buffer ≡ 133131 → length input ≡ 65536 → screen input buffer ≡ written_out Ef9366 (pictured input) buffer
  screen_reading enough full =
      screen_by ∙ ap (λ (n : ℕ). by_lengths n 133131 (length input)) enough ∙ ap (by_lengths 133131 133131) full

  pub long_reading : length buffer ≡ 133131 → length input ≡ 65537 → screen input buffer ≡ refused 21 buffer
  long_reading enough long =
      screen_by ∙ ap (λ (n : ℕ). by_lengths n 133131 (length input)) enough ∙ ap (by_lengths 133131 133131) long

  pub short_reading : length buffer ≡ 133130 → screen input buffer ≡ refused 9 buffer
  short_reading short = screen_by ∙ ap (λ (n : ℕ). by_lengths n 133131 (length input)) short

-- the example's picture
example_pictured : pictured example ≡ example_picture
unfolding answering
example_pictured = refl

-- its file at the start of a buffer, and later bytes stay
abbrev example_file : List ℕ → Outcome
example_file buffer = record { number = 0; value = 133131; memory = file 512 256 example_picture ++ drop 133131 buffer }

pub example_screen : (buffer : List ℕ) → length buffer ≡ 133131 → screen example buffer ≡ example_file buffer
unfolding out_by example example_picture
example_screen buffer enough =
    screen_by example buffer
    ∙ ap (λ (n : ℕ). by_lengths example buffer n 133131 (length example)) enough
    ∙ ap (λ (p : List ℕ). written_out Ef9366 p buffer) example_pictured
    ∙ (write_reading example_picture buffer).0
    ∙ ap (λ (n : ℕ). cond (ltb n 133131) (refused 9 buffer) (example_file buffer)) enough
