-- What a command draws, by the registers while it runs. c is its code.
-- Assumes nothing.
use Rattle.std.specs.Prelude.{ℕ, cond, ◌||◌, List, eqb}
use Rattle.picture.specs.Bit.{bit_at}
use Rattle.motion.specs.declared.character.Lie.{Lie}
use Rattle.motion.specs.Vector.{line_of}
use Rattle.motion.specs.Character.{character_of, block_of, lying}
use Rattle.motion.specs.Glyph.{glyph_of, solid_glyph}
use Rattle.parts.specs.declared.command.Kind.{Kind}
use Rattle.parts.specs.declared.command.Kind.TheVariants.{NoCycle, OneCycle, Vector, Character, Block}
use Rattle.parts.specs.Command.{kind}
use Rattle.drawing.specs.Figure.{Figure, Stroke, Cells, Pause, Nothing, cycles_of}
use Rattle.rules.specs.State.{Regs}

-- how characters and blocks lie: CTRL2 bit 3, they run upwards; bit 2, they are tilted
unfoldable pub lie : Regs → Lie
lie r = lying (bit_at 3 r.ctrl2) (bit_at 2 r.ctrl2)

-- a vector by DELTAX and DELTAY with the line type of CTRL2; a character and a block by CSIZE; 0F one cycle without a dot
unfoldable pub figure_by : Regs → ℕ → Kind → Figure
figure_by r c Vector = Stroke r.ctrl2 (line_of c r.deltax r.deltay)
figure_by r c Character = Cells (lie r) (character_of r.csize)
figure_by r c Block = Cells (lie r) (block_of r.csize)
figure_by r c OneCycle = Pause
figure_by r c NoCycle = Nothing

unfoldable pub figure : Regs → ℕ → Figure
figure r c = figure_by r c (kind c)

-- the cycles of a command; one that takes no write cycle has none
unfoldable pub cycles : Regs → ℕ → ℕ
cycles r c = cycles_of (figure r c)

-- the lent memories that are only read: the character table
pub record Tables : Type 0 where
  pub characters : List ℕ

abbrev pub tables : List ℕ → Tables
tables table = record { characters = table }

-- the five bytes of a character's glyph; 0A and the block 0B have every dot
unfoldable pub glyph : Tables → ℕ → List ℕ
glyph t c = cond (eqb c 0x0A || eqb c 0x0B) solid_glyph (glyph_of t.characters c)
