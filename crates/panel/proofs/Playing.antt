-- A log played line by line: what is written and what is still to come are together the definition's answers.
-- Assumes nothing.
use mathlib.Core.Path.{◌≡◌, refl, sym, ap, ◌∙◌}
use mathlib.Core.List.{List, [], ◌∷◌, ◌++◌, append_assoc, append-nil}
use Prim.Native.Nat.{ℕ, suc, ◌+◌, ◌*◌, ◌≤◌}
use native.Mathlib.Numerals.{add-one}
use native.Mathlib.Omega.{arith}
use lib.ListN.{length}
use Rattle.text.specs.declared.write.Writer.{Writer}
use Rattle.text.specs.Working.Writes.{Writes}
use Rattle.text.proofs.Laws.{writes_none, writes_more}
use Rattle.rules.specs.Card.{Card}
use Rattle.panel.specs.Record.{Record, record_of}
use Rattle.panel.specs.Panel.{card_after, answer_to, answers, shown}

-- of a log's lines, `rest` are still to be played on card c, the first of them as line k + 1; w stands where the first line's
-- writer v has written so much
pub record Going (all : List (List ℕ)) (c₀ : Card) (v : Writer) (rest : List (List ℕ)) (k : ℕ) (c : Card) (w : Writer) : Type 0 where
  pub count : k + length rest ≡ length all
  pub so_far : List ℕ
  pub wrote : Writes v so_far w
  pub short : w.at ≤ v.at + 11 * k
  pub text : so_far ++ answers (k + 1) c rest ≡ answers 1 c₀ all
  pub card : shown c rest ≡ shown c₀ all

-- none played yet
pub going_none : (all : List (List ℕ)) (c : Card) (w : Writer) → Going all c w all 0 c w
going_none all c w = record { count = omega arith; so_far = []; wrote = writes_none; short = omega arith; text = refl; card = refl }

module _ {all : List (List ℕ)} {c₀ : Card} {v : Writer} {rest : List (List ℕ)} {k : ℕ} {c : Card} {w : Writer} (g : Going all c₀ v rest k c w) where
  -- one line more
  pub going_more : {l : List ℕ} {ls : List (List ℕ)} {r : Record} {d : Card} {x : Writer} → rest ≡ l ∷ ls → r ≡ record_of l
      → d ≡ card_after c r → Writes w (answer_to (k + 1) c r) x → x.at ≤ w.at + 11
      → Going all c₀ v ls (k + 1) d x
  unfolding answers shown
  going_more {l} {ls} {r} {d} here is steps text short =
      let more : answers (k + 1) c rest ≡ answer_to (k + 1) c r ++ answers (suc (k + 1)) d ls = ap (answers (k + 1) c) here ∙ rw (steps, is) in
      let seen : shown c rest ≡ shown d ls = ap (shown c) here ∙ rw (steps, is) in
      record {
        count = omega (arith, g.count, ap length here);
        so_far = g.so_far ++ answer_to (k + 1) c r;
        wrote = writes_more g.wrote text;
        short = omega (arith, g.short);
        text = rw (append_assoc, add-one (k + 1)) (ap (λ (t : List ℕ). g.so_far ++ t) (sym more) ∙ g.text);
        card = sym seen ∙ g.card;
      }

  -- all are played
  pub going_all : rest ≡ [] → Writes v (answers 1 c₀ all) w × (c ≡ shown c₀ all) × (w.at ≤ v.at + 11 * length all)
  unfolding answers shown
  going_all none = (
    rw (← g.text, none, append-nil) g.wrote,
    (rw none at g.card),
    omega (arith, g.short, g.count, ap length none),
  )
