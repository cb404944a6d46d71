-- Taking a list away: those registers put back as at the start, CTRL1 bit 1 made low, and the list played again.
-- Assumes nothing.
use Rattle.std.specs.Prelude.{◌≡◌, ℕ, ◌/◌, ◌%◌, ◌*◌, ◌<◌, Bool, true, false, ◌&&◌, not, List, [], ◌∷◌, eqb, length}
use Rattle.picture.specs.Bit.{with_bit}
use Rattle.picture.specs.Dot.{dot_at, has, Bytes}
use Rattle.rules.specs.Sequence.{Idle}
use Rattle.rules.specs.State.{Regs, State, with_ctrl1, with_lpck}
use Rattle.rules.specs.Cycles.{lights}
use Rattle.rules.specs.Commands.{clearing}
use Rattle.rules.specs.Card.{Card, Event, W, R, T, VB, LP}
use Rattle.lists.specs.Item.{Item}
use Rattle.lists.specs.Play.{Fit, list_dots}

-- CTRL2, CSIZE, DELTAX, DELTAY, X and Y written as they are in state s
unfoldable pub back_to : State → List Event
back_to s =
    W 0x2 s.regs.ctrl2
    ∷ W 0x3 s.regs.csize
    ∷ W 0x5 s.regs.deltax
    ∷ W 0x7 s.regs.deltay
    ∷ W 0x8 (s.regs.x / 256)
    ∷ W 0x9 (s.regs.x % 256)
    ∷ W 0xA (s.regs.y / 256)
    ∷ W 0xB (s.regs.y % 256)
    ∷ []

-- then the eraser: CTRL1 bit 1 made low and the other bits as in state s, by a register write; or by command 01
unfoldable pub eraser_by_write : State → List Event
eraser_by_write s = W 0x1 (with_bit false 1 s.regs.ctrl1) ∷ []

unfoldable pub eraser_by_command : List Event
eraser_by_command = W 0x0 0x01 ∷ []

-- the same registers in another order: Y, X, the deltas, CSIZE, CTRL2, lower halves before upper
unfoldable pub backwards_to : State → List Event
backwards_to s =
    let r = s.regs in
    W 0xB (r.y % 256)
    ∷ W 0xA (r.y / 256)
    ∷ W 0x9 (r.x % 256)
    ∷ W 0x8 (r.x / 256)
    ∷ W 0x7 r.deltay
    ∷ W 0x5 r.deltax
    ∷ W 0x3 r.csize
    ∷ W 0x2 r.ctrl2
    ∷ []

-- registers b are a with CTRL1 bit 1 made as asked; XLP and YLP, which no list looks at, may be any
abbrev pub Relit : Bool → Regs → Regs → Type 0
Relit lit a b = b ≡ with_lpck b.xlp b.ylp (with_ctrl1 (with_bit lit 1 a.ctrl1) a)

-- the second run's start d, by whatever way of calls from c₁, the end of the first: idle again, the registers as at the start c
-- but CTRL1 bit 1, which is as asked; no dot was touched on the way
pub record PutBack (lit : Bool) (c c₁ d : Card) : Type 0 where
  pub idle : d.state.work ≡ Idle
  pub regs : Relit lit c.state.regs d.state.regs
  pub memory : d.memory ≡ c₁.memory

-- the calls of a way grant no cycle and begin no clear (04, 06, 07, 0C)
unfoldable pub draws_none : List Event → Bool
draws_none [] = true
draws_none (W a v ∷ es) = not (eqb a 0x0 && clearing v) && draws_none es
draws_none (R a ∷ es) = draws_none es
draws_none (T n ∷ es) = false
draws_none (VB level ∷ es) = draws_none es
draws_none (LP h v ∷ es) = draws_none es

-- what the demand grants: an idle processor with the pen, and memories that fit, the picture's made of bytes
pub record Ready (c : Card) : Type 0 where
  pub fit : Fit c
  pub pen : lights c.state.regs ≡ true
  pub dots : Bytes c.memory.picture

-- demand 3's promise of the pictures: card c at the start, picture q after both runs of the list
pub record Erased (c : Card) (its : List Item) (q : List ℕ) : Type 0 where
  pub dark : (d : ℕ) → d < 8 * length c.memory.picture → has d (list_dots c.state c.tables its) ≡ true → dot_at q d ≡ false
  pub others : (d : ℕ) → d < 8 * length c.memory.picture → has d (list_dots c.state c.tables its) ≡ false
      → dot_at q d ≡ dot_at c.memory.picture d
  pub first : ((d : ℕ) → d < 8 * length c.memory.picture → has d (list_dots c.state c.tables its) ≡ true → dot_at c.memory.picture d ≡ false)
      → q ≡ c.memory.picture
  pub only : q ≡ c.memory.picture
      → (d : ℕ) → d < 8 * length c.memory.picture → has d (list_dots c.state c.tables its) ≡ true → dot_at c.memory.picture d ≡ false

-- how the second run ends beside the first, whatever else the host called: state a after the run with the pen, b after the run
-- with the eraser. CTRL1 bit 1 is low; XLP and YLP are as reads and edges left them
pub record EndsAs (a b : State) : Type 0 where
  pub regs : Relit false a.regs b.regs
  pub format : b.format ≡ a.format
  pub work : b.work ≡ a.work

-- and where it called nothing else, all that is left of the state but flag ready
pub record EndsWhole (a b : State) : Type 0 where
  pub xlp : b.regs.xlp ≡ a.regs.xlp
  pub ylp : b.regs.ylp ≡ a.regs.ylp
  pub light_pen : b.light_pen ≡ a.light_pen
  pub vb : b.vb ≡ a.vb
  pub pen_flag : b.flags.light_pen ≡ a.flags.light_pen
  pub vb_flag : b.flags.vb ≡ a.flags.vb
