-- A text cut at a byte: what lines and fields have in common.
-- Assumes nothing.
use mathlib.Core.Path.{◌≡◌, refl, ap, ◌∙◌}
use mathlib.Core.Bool.{cond}
use mathlib.Core.List.{List, [], ◌∷◌, ◌++◌}
use Prim.Native.Nat.{ℕ, suc, ◌<◌}
use native.Mathlib.Omega.{arith}
use lib.Dec.{eqb}
use lib.ListN.{length, get_or}
use borrow.Author.Tests.{eq-eqb, ne_eqb}
use Rattle.std.specs.Prelude.{Option, Some, None}
use Rattle.std.specs.Option.{option_map_or}
use Rattle.std.specs.Borrow.{Bor}
use Rattle.text.specs.Pieces.{tab, line_feed, attached, fields_of, lines_of}
use Rattle.text.specs.Working.Cut.{Cut}

-- a text's pieces are parted by the byte `at`; what an empty text is, is left open
pub record Cuts (at : ℕ) (pieces : List ℕ → List (List ℕ)) : Type 0 where
  pub last : (b : ℕ) → attached b (pieces []) ≡ (b ∷ []) ∷ []
  pub more : (b : ℕ) (bs : List ℕ) → pieces (b ∷ bs) ≡ cond (eqb b at) ([] ∷ pieces bs) (attached b (pieces bs))

-- fields
pub at_tabs : Cuts tab fields_of
unfolding fields_of attached
at_tabs = record { last = λ b. refl; more = λ b bs. refl }

-- lines
pub at_line_feeds : Cuts line_feed lines_of
unfolding lines_of attached
at_line_feeds = record { last = λ b. refl; more = λ b bs. refl }

module _ {at : ℕ} {pieces : List ℕ → List (List ℕ)} (cuts : Cuts at pieces) where
  -- another byte joins the first piece
  pub joins : (b : ℕ) (bs : List ℕ) → (b ≡ at → ⊥) → pieces (b ∷ bs) ≡ attached b (pieces bs)
  joins b bs h = cuts.more b bs ∙ rw (ne_eqb b at h)

  -- the first piece ends where the byte first stands
  first : (t rest : List ℕ) → ((j : ℕ) → j < length t → get_or t j 0 ≡ at → ⊥) → pieces (t ++ (at ∷ rest)) ≡ t ∷ pieces rest
  unfolding attached
  first [] rest none = cuts.more at rest ∙ rw (eq-eqb at at refl)
  first (b ∷ bs) rest none =
      joins b (bs ++ (at ∷ rest)) (none 0 (omega arith)) ∙ ap (attached b) (first bs rest (λ j l. none (suc j) (omega arith)))

  -- a text without it is one piece
  whole : (t : List ℕ) → 0 < length t → ((j : ℕ) → j < length t → get_or t j 0 ≡ at → ⊥) → pieces t ≡ t ∷ []
  unfolding attached
  whole [] h none = absurd (omega arith)
  whole (b ∷ []) h none = joins b [] (none 0 (omega arith)) ∙ cuts.last b
  whole (b ∷ d ∷ ds) h none =
      joins b (d ∷ ds) (none 0 (omega arith)) ∙ ap (attached b) (whole (d ∷ ds) (omega arith) (λ j l. none (suc j) (omega arith)))

  -- so a text that is cut at the byte is its first piece and those of what stands behind that
  pub cut_pieces : {t f : List ℕ} (rest : Option (Bor (List ℕ))) → Cut at t f rest → 0 < length t
      → pieces t ≡ f ∷ option_map_or (λ r. pieces r.now) rest []
  cut_pieces None c some = whole _ some (rw (← c.parts) at c.none) ∙ rw c.parts
  cut_pieces (Some r) c some = ap pieces c.parts ∙ first _ r.now c.none
