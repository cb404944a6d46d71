-- The picture that a log leaves, as a plain PBM file.
-- Assumes nothing.
use Rattle.std.specs.Prelude.{ℕ, cond, List, ltb, length}
use Rattle.text.specs.Pieces.{lines_of}
use Rattle.parts.specs.declared.format.Format.TheVariants.{Ef9366}
use Rattle.pbm.specs.Calls.{Outcome, refused, file_of, written_out}
use Rattle.panel.specs.Panel.{dark, card, shown}

-- a buffer shorter than a picture's file is refused with 9, and a log past 65,536 bytes with 21, as the panel has it; else the
-- picture that the panel shows after the last line is written
unfoldable pub screen : List ℕ → List ℕ → Outcome
screen input buffer =
    cond (ltb (length buffer) (length (file_of Ef9366 dark))) (refused 9 buffer)
    (cond (ltb 65536 (length input)) (refused 21 buffer)
    (written_out Ef9366 (shown card (lines_of input)).memory.picture buffer))
