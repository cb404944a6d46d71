-- The state of the processor. The place where a running command began is not kept: it is X and Y less the way that its used
-- cycles went, so no state can be at odds with itself.
-- Assumes nothing.
use Rattle.std.specs.Prelude.{ℕ, Bool, false, ◌||◌}
use Rattle.picture.specs.Bit.{bit_at}
use Rattle.motion.specs.declared.position.Spot.{Spot}
use Rattle.parts.specs.declared.format.Format.{Format}
use Rattle.rules.specs.Sequence.{Work, Idle, LightPen, Off}

pub record Regs : Type 0 where
  pub ctrl1 : ℕ
  pub ctrl2 : ℕ
  pub csize : ℕ
  pub deltax : ℕ
  pub deltay : ℕ
  pub x : ℕ
  pub y : ℕ
  pub xlp : ℕ
  pub ylp : ℕ

-- the flags of STATUS bits 4, 5 and 6
pub record Flags : Type 0 where
  pub light_pen : Bool
  pub vb : Bool
  pub ready : Bool

pub record State : Type 0 where
  pub format : Format
  pub regs : Regs
  pub work : Work
  pub light_pen : LightPen
  pub vb : Bool
  pub flags : Flags

-- the registers in a row: CTRL1, CTRL2, CSIZE, DELTAX, DELTAY, X, Y, XLP, YLP
abbrev pub regs : ℕ → ℕ → ℕ → ℕ → ℕ → ℕ → ℕ → ℕ → ℕ → Regs
regs c1 c2 cs dx dy x y xl yl =
    record { ctrl1 = c1; ctrl2 = c2; csize = cs; deltax = dx; deltay = dy; x = x; y = y; xlp = xl; ylp = yl }

-- with one of them put anew, all else as it was
abbrev pub with_ctrl1 : ℕ → Regs → Regs
with_ctrl1 v r = regs v r.ctrl2 r.csize r.deltax r.deltay r.x r.y r.xlp r.ylp

abbrev pub with_ctrl2 : ℕ → Regs → Regs
with_ctrl2 v r = regs r.ctrl1 v r.csize r.deltax r.deltay r.x r.y r.xlp r.ylp

abbrev pub with_csize : ℕ → Regs → Regs
with_csize v r = regs r.ctrl1 r.ctrl2 v r.deltax r.deltay r.x r.y r.xlp r.ylp

abbrev pub with_deltax : ℕ → Regs → Regs
with_deltax v r = regs r.ctrl1 r.ctrl2 r.csize v r.deltay r.x r.y r.xlp r.ylp

abbrev pub with_deltay : ℕ → Regs → Regs
with_deltay v r = regs r.ctrl1 r.ctrl2 r.csize r.deltax v r.x r.y r.xlp r.ylp

abbrev pub with_x : ℕ → Regs → Regs
with_x v r = regs r.ctrl1 r.ctrl2 r.csize r.deltax r.deltay v r.y r.xlp r.ylp

abbrev pub with_y : ℕ → Regs → Regs
with_y v r = regs r.ctrl1 r.ctrl2 r.csize r.deltax r.deltay r.x v r.xlp r.ylp

-- X and Y at a place
abbrev pub with_place : Spot → Regs → Regs
with_place at r = regs r.ctrl1 r.ctrl2 r.csize r.deltax r.deltay at.x at.y r.xlp r.ylp

-- XLP and YLP
abbrev pub with_lpck : ℕ → ℕ → Regs → Regs
with_lpck xl yl r = regs r.ctrl1 r.ctrl2 r.csize r.deltax r.deltay r.x r.y xl yl

abbrev pub flags : Bool → Bool → Bool → Flags
flags p v r = record { light_pen = p; vb = v; ready = r }

abbrev pub state : Format → Regs → Work → LightPen → Bool → Flags → State
state f r w p v g = record { format = f; regs = r; work = w; light_pen = p; vb = v; flags = g }

abbrev pub with_regs : Regs → State → State
with_regs r s = state s.format r s.work s.light_pen s.vb s.flags

abbrev pub with_work : Work → State → State
with_work w s = state s.format s.regs w s.light_pen s.vb s.flags

abbrev pub with_light_pen : LightPen → State → State
with_light_pen p s = state s.format s.regs s.work p s.vb s.flags

abbrev pub with_vb : Bool → State → State
with_vb b s = state s.format s.regs s.work s.light_pen b s.flags

abbrev pub with_flags : Flags → State → State
with_flags g s = state s.format s.regs s.work s.light_pen s.vb g

-- fresh: CSIZE 11, all other registers 0, idle, VB low, no pen sequence, flags clear
unfoldable pub fresh : Format → State
fresh f = state f (regs 0 0 0x11 0 0 0 0 0 0) Idle Off false (flags false false false)

-- a signal rises: its flag is set while its bit of CTRL1 is high, 4 for the pen's end, 5 for VB, 6 for ready
unfoldable pub light_pen_raises : State → State
light_pen_raises s = with_flags (flags (s.flags.light_pen || bit_at 4 s.regs.ctrl1) s.flags.vb s.flags.ready) s

unfoldable pub vb_raises : State → State
vb_raises s = with_flags (flags s.flags.light_pen (s.flags.vb || bit_at 5 s.regs.ctrl1) s.flags.ready) s

unfoldable pub ready_raises : State → State
ready_raises s = with_flags (flags s.flags.light_pen s.flags.vb (s.flags.ready || bit_at 6 s.regs.ctrl1)) s
