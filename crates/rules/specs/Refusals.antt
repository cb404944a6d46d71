-- The refusals of every call, in the order of document 01's table.
-- Assumes nothing.
use Rattle.std.specs.Prelude.{ℕ, Bool, false, ◌||◌, ◌&&◌, not, List, [], ◌∷◌, eqb, ltb, leb, length}
use Rattle.picture.specs.Bit.{bit_at}
use Rattle.parts.specs.Format.{bytes}
use Rattle.parts.specs.Refusal.{lowest}
use Rattle.rules.specs.Sequence.{Work, Idle, Steps, Clear, ready, light_pen_open}
use Rattle.rules.specs.State.{Regs, State}
use Rattle.rules.specs.Figure.{Tables, cycles}

-- 1: X or Y above 4,095, CTRL1 above 127, CTRL2 above 15, bit 1 of XLP high
unfoldable pub bad_regs : Regs → Bool
bad_regs r = ltb 4095 r.x || ltb 4095 r.y || ltb 127 r.ctrl1 || ltb 15 r.ctrl2 || bit_at 1 r.xlp

-- a running command that takes no time: its count is 0, so no progress is below it; a progress not below the count;
-- VB high inside an open frame of a clear
unfoldable pub bad_work : Regs → Bool → Work → Bool
bad_work r vb Idle = false
bad_work r vb (Steps c p) = leb (cycles r c) p
bad_work r vb (Clear f o) = vb && o.inside

-- or VB high inside an open frame of the pen
unfoldable pub bad : State → Bool
bad s = bad_regs s.regs || bad_work s.regs s.vb s.work || (s.vb && light_pen_open s.light_pen)

-- 2: the lent picture is not of the format's length
unfoldable pub wrong_picture : State → List ℕ → Bool
wrong_picture s picture = not (eqb (length picture) (bytes s.format))

-- 3: the character table is not 480 bytes
unfoldable pub wrong_table : Tables → Bool
wrong_table t = not (eqb (length t.characters) 480)

-- 4: address 4, 6, E or F, or above 15
unfoldable pub no_register : ℕ → Bool
no_register a = eqb a 0x4 || eqb a 0x6 || leb 0xE a

-- 5: a write to C or D
unfoldable pub read_only : ℕ → Bool
read_only a = eqb a 0xC || eqb a 0xD

-- 6: a write to any other address while a command runs
unfoldable pub busy : State → Bool
busy s = not (ready s.work)

-- 7, once a character command while CTRL2 bit 2 is high, is given by no call

-- 8: h above 63 or v above 255
unfoldable pub off_screen : ℕ → ℕ → Bool
off_screen h v = ltb 63 h || ltb 255 v

-- each call's own cases
unfoldable pub write_number : State → ℕ → ℕ
write_number s a = lowest ((1, bad s) ∷ (4, no_register a) ∷ (5, read_only a) ∷ (6, busy s) ∷ [])

unfoldable pub read_number : State → ℕ → ℕ
read_number s a = lowest ((1, bad s) ∷ (4, no_register a) ∷ [])

unfoldable pub grant_number : State → List ℕ → Tables → ℕ
grant_number s picture t = lowest ((1, bad s) ∷ (2, wrong_picture s picture) ∷ (3, wrong_table t) ∷ [])

unfoldable pub vb_number : State → List ℕ → ℕ
vb_number s picture = lowest ((1, bad s) ∷ (2, wrong_picture s picture) ∷ [])

unfoldable pub edge_number : State → ℕ → ℕ → ℕ
edge_number s h v = lowest ((1, bad s) ∷ (8, off_screen h v) ∷ [])

unfoldable pub address_number : State → ℕ
address_number s = lowest ((1, bad s) ∷ [])
