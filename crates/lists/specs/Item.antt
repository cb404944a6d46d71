-- The items of a list: writes to X, Y, the deltas, CSIZE and CTRL2, coordinate resets, vectors and characters; nothing else.
-- Assumes nothing.
use Rattle.std.specs.Prelude.{ℕ, Bool, true, false, ◌||◌, List, [], ◌∷◌, T, ltb}
use Rattle.picture.specs.Dot.{has}
use Rattle.parts.specs.declared.command.Kind.{Kind}
use Rattle.parts.specs.declared.command.Kind.TheVariants.{NoCycle, OneCycle, Vector, Character, Block}
use Rattle.parts.specs.Command.{kind}

-- the addresses of CTRL2, CSIZE, DELTAX, DELTAY, X and Y, both halves
abbrev pub settings : List ℕ
settings = 0x2 ∷ 0x3 ∷ 0x5 ∷ 0x7 ∷ 0x8 ∷ 0x9 ∷ 0xA ∷ 0xB ∷ []

-- the coordinate resets: X and Y, X, Y
abbrev pub resets : List ℕ
resets = 0x05 ∷ 0x0D ∷ 0x0E ∷ []

-- a vector (10 to 1F, 80 to FF) or a character (20 to 7F, 0A, 0B)
abbrev pub is_drawn : Kind → Bool
is_drawn Vector = true
is_drawn Character = true
is_drawn Block = true
is_drawn OneCycle = false
is_drawn NoCycle = false

-- the commands of a list: the resets, and what is drawn
abbrev pub is_listed : ℕ → Bool
is_listed c = has c resets || is_drawn (kind c)

-- a byte written to a register, or a command
pub data Item : Type 0 where
  Set : (a v : ℕ) → T (has a settings) → T (ltb v 256) → Item
  Command : (c : ℕ) → T (is_listed c) → T (ltb c 256) → Item

-- the write call's address and value: CMD is at 0
abbrev pub address : Item → ℕ
address (Set a v s b) = a
address (Command c l b) = 0x0

abbrev pub value : Item → ℕ
value (Set a v s b) = v
value (Command c l b) = c
