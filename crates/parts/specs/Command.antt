-- The command codes by how they use write cycles.
-- Assumes nothing.
use Rattle.std.specs.Prelude.{ℕ, Bool, true, false, cond, eqb, ltb}
use Rattle.parts.specs.declared.command.Kind.{Kind}
use Rattle.parts.specs.declared.command.Kind.TheVariants.{NoCycle, OneCycle, Vector, Character, Block}

-- 0A and 20 to 7F characters, 0B block, 0F one cycle, 10 to 1F and 80 to FF vectors; all others use no write cycle
unfoldable pub kind : ℕ → Kind
kind c =
    cond (eqb c 0x0A) Character
    (cond (eqb c 0x0B) Block
    (cond (eqb c 0x0F) OneCycle
    (cond (ltb c 0x10) NoCycle
    (cond (ltb c 0x20) Vector
    (cond (ltb c 0x80) Character
    Vector)))))

-- a character command: 20 to 7F, 0A, 0B
abbrev pub lettering : Kind → Bool
lettering Character = true
lettering Block = true
lettering Vector = false
lettering OneCycle = false
lettering NoCycle = false

-- a vector
abbrev pub lining : Kind → Bool
lining Vector = true
lining Character = false
lining Block = false
lining OneCycle = false
lining NoCycle = false

-- a command that takes no write cycle
abbrev pub prompting : Kind → Bool
prompting NoCycle = true
prompting OneCycle = false
prompting Vector = false
prompting Character = false
prompting Block = false
