-- `panel::run::play_lines` meets its contract: after each line, what is written and what is still to come are the definition's answers.
-- Assumes nothing.
use mathlib.Core.Path.{◌≡◌, refl, ap}
use mathlib.Core.Logic.{inl}
use mathlib.Core.List.{List, ◌∷◌}
use Prim.Native.Nat.{ℕ, ◌≤◌, ◌<◌}
use native.Mathlib.Omega.{arith}
use lib.ListN.{length}
use Rattle.text.specs.Pieces.{lines_of}
use Rattle.text.specs.declared.write.Writer.{Writer}
use Rattle.text.specs.Working.Writes.{Room}
use Rattle.rules.specs.Card.{Card}
use Rattle.panel.specs.Panel.{card}
use Rattle.panel.specs.Working.Played.{card_at}
use Rattle.panel.proofs.Steps.{started, started_tidy}
use Rattle.panel.proofs.Longest.{lines_length}
use Rattle.panel.proofs.Playing.{Going, going_none, going_more, going_all}
use Rattle.panel.proofs.run.play_lines.Goals as goal

pub loop-k-init-derived : goal.loop-k-init-derived
loop-k-init-derived c =
    let e = c.enumerate-k-items.ensures in
    let size = c.requires.0 in
    ((tt, tt, inl (rw (c.into_iter-k-iterator.ensures.into_iter_gives, e.source, e.count) (omega (arith, lines_length c.args.input.now, size)))), tt)

pub loop-k-init : goal.loop-k-init
loop-k-init c =
    let e = c.enumerate-k-items.ensures in (
      rw (c.into_iter-k-iterator.ensures.into_iter_gives, e.source, e.count)
          (going_none (lines_of c.args.input.now) (card_at c.fresh-s.result c.args.pic.now c.args.table.now) c.args.w.now),
      refl,
      started_tidy c.fresh-s.ensures,
    )

-- each line has a byte, or a line feed
module _ (input : List ℕ) (size : length input ≤ 65536) {c₀ c : Card} {v w : Writer} {rest ls : List (List ℕ)} {l : List ℕ} {k : ℕ} where
  few : Going (lines_of input) c₀ v rest k c w → rest ≡ l ∷ ls → k < 65536
  few g here = omega (arith, g.count, ap length here, lines_length input)

  room : (g : Going (lines_of input) c₀ v rest k c w) → rest ≡ l ∷ ls → Room 720921 v → Room 14 w
  room g here h = omega (arith, few g here, g.short, g.wrote.wrote.size)

pub overflow_cast-line : goal.overflow_cast-line
overflow_cast-line c =
    let e = c.in-Some.ensures.steps in
    omega (arith, e.1, few _ c.requires.0 c.loop-k.invariant.0 e.0)

pub overflow_add-line : goal.overflow_add-line
overflow_add-line c =
    let e = c.in-Some.ensures.steps in
    omega (arith, e.1, few _ c.requires.0 c.loop-k.invariant.0 e.0)

pub play_record-requires : goal.play_record-requires
play_record-requires c =
    let e = c.in-Some.ensures.steps in
    let g = c.loop-k.invariant.0 in
    (omega (arith, e.1, few _ c.requires.0 g e.0), c.loop-k.invariant.2, room _ c.requires.0 g e.0 c.requires.3)

pub loop-k-preserved : goal.loop-k-preserved
loop-k-preserved c =
    let e = c.in-Some.ensures.steps in
    let step = rw e.1 at c.play_record.ensures in (
      rw e.2 (going_more c.loop-k.invariant.0 e.0 c.parse.ensures step.card step.text step.short),
      omega (arith, c.play_record.auto.pic, c.loop-k.invariant.1),
      step.tidy,
    )

pub returns : goal.returns
returns c =
    let size = c.requires.0 in
    let first : card_at c.fresh-s.result c.args.pic.now c.args.table.now ≡ card = started c.fresh-s.ensures c.requires.1 c.requires.2 in
    let all = rw first at (going_all c.loop-k.invariant.0 c.in-None.ensures.steps.0.0) in
    record {
      wrote = all.0;
      pic_after = (ap (λ (d : Card). d.memory.picture) all.1, omega (arith, all.2, lines_length c.args.input.now, size));
    }
