-- A command's figure does not depend on where it is drawn, nor with what: CTRL1, X, Y, XLP and YLP have no part in it.
-- Assumes nothing.
use mathlib.Core.Path.{◌≡◌, refl, ap, ◌∙◌}
use mathlib.Core.Bool.{true}
use Prim.Native.Nat.{ℕ, ◌<◌}
use native.Mathlib.Omega.{arith}
use borrow.Author.Tests.{lt-ltb}
use Rattle.motion.specs.Character.{block_of, body_cycles, column_of, row_of}
use Rattle.motion.specs.Glyph.{solid_glyph}
use Rattle.motion.specs.declared.character.Lie.{Lie}
use Rattle.motion.proofs.Laws.{block_column, solid_inked}
use Rattle.parts.specs.declared.command.Kind.{Kind}
use Rattle.parts.specs.declared.command.Kind.TheVariants.{NoCycle, OneCycle, Vector, Character, Block}
use Rattle.parts.specs.Command.{kind}
use Rattle.drawing.specs.Figure.{Cells, cycles_of, writes}
use Rattle.rules.specs.State.{Regs, regs}
use Rattle.rules.specs.Figure.{lie, figure_by, figure, cycles}

by_kind : (r : Regs) (c1 x y xl yl c : ℕ) (k : Kind)
    → figure_by (regs c1 r.ctrl2 r.csize r.deltax r.deltay x y xl yl) c k ≡ figure_by r c k
unfolding figure_by lie
by_kind r c1 x y xl yl c NoCycle = refl
by_kind r c1 x y xl yl c OneCycle = refl
by_kind r c1 x y xl yl c Vector = refl
by_kind r c1 x y xl yl c Character = refl
by_kind r c1 x y xl yl c Block = refl

pub figure_kept : (r : Regs) (c1 x y xl yl c : ℕ)
    → figure (regs c1 r.ctrl2 r.csize r.deltax r.deltay x y xl yl) c ≡ figure r c
unfolding figure
figure_kept r c1 x y xl yl c = by_kind r c1 x y xl yl c (kind c)

-- so neither have its cycles
pub cycles_kept : (r : Regs) (c1 x y xl yl c : ℕ)
    → cycles (regs c1 r.ctrl2 r.csize r.deltax r.deltay x y xl yl) c ≡ cycles r c
unfolding cycles
cycles_kept r c1 x y xl yl c = ap cycles_of (figure_kept r c1 x y xl yl c)

-- every cycle of a block writes, though the glyph that it is given has five columns
pub block_full : (lie : Lie) (csize i : ℕ) → csize < 256 → i < body_cycles (block_of csize)
    → writes (Cells lie (block_of csize)) solid_glyph i ≡ true
unfolding writes
block_full lie csize i byte h =
    let b = block_of csize in
    let four = block_column csize byte i h in
    solid_inked (column_of b i) (row_of b i) ∙ lt-ltb (column_of b i) 5 (omega arith)
