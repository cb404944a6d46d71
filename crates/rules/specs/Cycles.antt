-- What n granted cycles use, write and leave. A running command of code c has used p of its cycles; X and Y stand on
-- the place of cycle p, so its start is that place less the way to it.
-- Assumes nothing.
use Rattle.std.specs.Prelude.{ℕ, ◌+◌, ◌-◌, min, Bool, cond, List, [], ltb}
use Rattle.picture.specs.Bit.{bit_at}
use Rattle.motion.specs.declared.position.Spot.{Spot}
use Rattle.motion.specs.Position.{spot}
use Rattle.parts.specs.declared.format.Format.{Format}
use Rattle.parts.specs.Format.{window}
use Rattle.drawing.specs.declared.tip.Tip.{Tip}
use Rattle.drawing.specs.Run.{start_of, rest_of, dots_from}
use Rattle.rules.specs.Sequence.{Work, Idle, Steps, Clear}
use Rattle.rules.specs.State.{Regs, State, with_place, with_regs, with_work, ready_raises}
use Rattle.rules.specs.Figure.{Tables, figure, cycles, glyph}

-- the pen or eraser is down (CTRL1 bit 0); it is the pen, which lights (bit 1); the screen is cyclic (bit 3)
unfoldable pub pen_down : Regs → Bool
pen_down r = bit_at 0 r.ctrl1

unfoldable pub lights : Regs → Bool
lights r = bit_at 1 r.ctrl1

unfoldable pub cyclic : Regs → Bool
cyclic r = bit_at 3 r.ctrl1

-- the tip of the pen or eraser over the format's window
unfoldable pub tip : Format → Regs → Tip
tip f r = record { window = window f (cyclic r); down = pen_down r; lit = lights r }

-- X and Y now, and when the command began
abbrev pub here : Regs → Spot
here r = spot r.x r.y

unfoldable pub start : Regs → ℕ → ℕ → Spot
start r c p = start_of (figure r c) p (here r)

-- the cycles left; none when idle or clearing
unfoldable pub left_of : Regs → Work → ℕ
left_of r Idle = 0
left_of r (Steps c p) = cycles r c - p
left_of r (Clear f o) = 0

unfoldable pub left : State → ℕ
left s = left_of s.regs s.work

-- n granted cycles use the smaller of n and those left
unfoldable pub used : State → ℕ → ℕ
used s n = min n (left s)

-- the dots that n granted cycles write: those of the command's next cycles
unfoldable pub dots_of : Format → Regs → Tables → ℕ → Work → List ℕ
dots_of f r t n Idle = []
dots_of f r t n (Steps c p) = dots_from (tip f r) (figure r c) (glyph t c) (start r c p) p (min n (cycles r c - p))
dots_of f r t n (Clear g o) = []

unfoldable pub dots : State → Tables → ℕ → List ℕ
dots s t n = dots_of s.format s.regs t n s.work

-- X and Y when i cycles of the command are used: on the place of the next cycle, or where the command leaves them
unfoldable pub rested : State → ℕ → ℕ → ℕ → State
rested s c p i = with_regs (with_place (rest_of (figure s.regs c) (start s.regs c p) i) s.regs) s

-- the state after n granted cycles: with the last one the command is over and ready rises
unfoldable pub after_of : State → ℕ → Work → State
after_of s n Idle = s
after_of s n (Steps c p) =
    cond (ltb (p + n) (cycles s.regs c))
    (with_work (Steps c (p + n)) (rested s c p (p + n)))
    (ready_raises (with_work Idle (rested s c p (p + n))))
after_of s n (Clear f o) = s

unfoldable pub after : State → ℕ → State
after s n = after_of s n s.work
