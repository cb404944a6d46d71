-- The lines of a text, and the fields of a line, one after the other.
-- Assumes nothing.
use mathlib.Core.Path.{◌≡◌, refl, ap, ◌∙◌}
use mathlib.Core.List.{List, [], ◌∷◌}
use Prim.Native.Nat.{ℕ, ◌<◌}
use native.Mathlib.Omega.{arith}
use lib.ListN.{length, length-append}
use Rattle.std.specs.Prelude.{Option, Some, None, unwrap_or}
use Rattle.std.specs.Option.{option_map_or}
use Rattle.std.specs.Borrow.{Bor}
use Rattle.text.specs.Pieces.{tab, line_feed, lines_of, fields_of}
use Rattle.text.specs.Working.Cut.{Cut}
use Rattle.text.proofs.Pieces.{at_tabs, at_line_feeds, cut_pieces}

-- an empty text has no lines
pub lines_none : (t : List ℕ) → length t ≡ 0 → lines_of t ≡ []
unfolding lines_of
lines_none [] h = refl
lines_none (b ∷ bs) h = absurd (omega arith)

-- a text that is cut at its first line feed: that line, and those of the rest
pub lines_cut : {t f : List ℕ} (rest : Option (Bor (List ℕ))) (empty : Bor (List ℕ)) → Cut line_feed t f rest → 0 < length t → length empty.now ≡ 0
    → lines_of t ≡ f ∷ lines_of (unwrap_or rest empty).now
lines_cut None empty c some e = cut_pieces at_line_feeds None c some ∙ rw (lines_none empty.now e)
lines_cut (Some r) empty c some e = cut_pieces at_line_feeds (Some r) c some

-- a line that is cut at its first tab: that field, and those of the rest
pub fields_cut : (t : List ℕ) {f : List ℕ} (rest : Option (Bor (List ℕ))) → Cut tab t f rest
    → fields_of t ≡ f ∷ option_map_or (λ r. fields_of r.now) rest []
unfolding fields_of
fields_cut [] None c = rw (← c.parts)
fields_cut [] (Some r) c = absurd (omega (arith, simp length-append at (ap length c.parts)))
fields_cut (b ∷ bs) rest c = cut_pieces at_tabs rest c (omega arith)
