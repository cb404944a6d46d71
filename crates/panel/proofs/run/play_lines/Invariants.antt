-- `panel::run::play_lines`: what is written and what is still to come are the definition's answers.
-- Assumes nothing.
use mathlib.Core.Path.{◌≡◌}
use lib.ListN.{length}
use Rattle.std.specs.Iterator.Adapters.{enumerate_source, enumerate_count}
use Rattle.text.specs.Pieces.{lines_of}
use Rattle.panel.specs.Working.Played.{card_at, Tidy}
use Rattle.panel.proofs.Playing.{Going}
use Rattle.panel.proofs.run.play_lines.Given as goal

abbrev pub invariant-loop-k : goal.invariant-loop-k
invariant-loop-k l =
    Going (lines_of l.input) (card_at l.initial.s l.initial.pic l.table) l.initial.w
    (lines_of (enumerate_source l.k-iterator).0.now) (enumerate_count l.k-iterator) (card_at l.s l.pic l.table) l.w
    × (length l.pic ≡ length l.initial.pic)
    × Tidy l.s
