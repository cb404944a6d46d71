-- The state in sixteen bytes: the state that they stand for, whatever they are, and the bytes of a state.
-- Assumes nothing.
use Rattle.std.specs.Prelude.{ℕ, ◌+◌, ◌-◌, ◌*◌, ◌/◌, ◌%◌, min, Bool, false, cond, ◌&&◌, eqb, ltb}
use Rattle.picture.specs.Bit.{digit, bit_at}
use Rattle.parts.specs.declared.format.Format.{Format}
use Rattle.parts.specs.Format.{format_number, format_at, frames}
use Rattle.rules.specs.Sequence.{Frames, Work, Idle, Steps, Clear, LightPen, Off, Waiting, Open, clear_open, frames_over}
use Rattle.rules.specs.State.{Regs, Flags, State}
use Rattle.gdp.specs.declared.state.Gdp.{Gdp}

-- the number of the pen's sequence, and the sequence of a number
abbrev pub light_pen_number : LightPen → ℕ
light_pen_number Off = 0
light_pen_number Waiting = 1
light_pen_number Open = 2

unfoldable pub light_pen_at : ℕ → LightPen
light_pen_at n = cond (eqb n 0) Off (cond (eqb n 1) Waiting Open)

-- the number of what runs; its code and progress, 0 where it has none; and whether it is the clear 0C
abbrev pub work_number : Work → ℕ
work_number Idle = 0
work_number (Steps c p) = 1
work_number (Clear f o) = 2

abbrev pub code_of : Work → ℕ
code_of Idle = 0
code_of (Steps c p) = c
code_of (Clear f o) = 0

abbrev pub done_of : Work → ℕ
done_of Idle = 0
done_of (Steps c p) = p
done_of (Clear f o) = 0

abbrev pub fills : Work → Bool
fills Idle = false
fills (Steps c p) = false
fills (Clear f o) = f

-- what runs, of a number
unfoldable pub work_at : ℕ → ℕ → ℕ → Bool → Frames → Work
work_at n c p f o = cond (eqb n 0) Idle (cond (eqb n 1) (Steps c p) (Clear f o))

-- `modes`: bits 0 to 2 the format, 3 and 4 what runs, 5 the clear is 0C, 6 a frame of it is open, 7 one is over
unfoldable pub modes_of : Format → Work → ℕ
modes_of f w = format_number f + 8 * work_number w + 32 * digit (fills w) + 64 * digit (clear_open w) + 128 * frames_over w

-- `signals`: bit 1 VB, 2 and 3 the pen's sequence, 4, 5 and 6 the flags for pen end, VB and ready
unfoldable pub signals_of : Bool → LightPen → Flags → ℕ
signals_of vb p g = 2 * digit vb + 4 * light_pen_number p + 16 * digit g.light_pen + 32 * digit g.vb + 64 * digit g.ready

-- the sixteen bytes of a state
unfoldable pub flat : State → Gdp
flat s =
    record {
      x = s.regs.x;
      y = s.regs.y;
      done = done_of s.work;
      ctrl1 = s.regs.ctrl1;
      ctrl2 = s.regs.ctrl2;
      csize = s.regs.csize;
      deltax = s.regs.deltax;
      deltay = s.regs.deltay;
      xlp = s.regs.xlp;
      ylp = s.regs.ylp;
      code = code_of s.work;
      modes = modes_of s.format s.work;
      signals = signals_of s.vb s.light_pen s.flags;
    }

-- the numbers in `modes` and `signals`
abbrev pub format_in : ℕ → ℕ
format_in m = m % 8

abbrev pub work_in : ℕ → ℕ
work_in m = m / 8 % 4

abbrev pub light_pen_in : ℕ → ℕ
light_pen_in g = g / 4 % 4

-- each names one of its three
unfoldable pub named_modes : ℕ → Bool
named_modes m = ltb (format_in m) 3 && ltb (work_in m) 3

unfoldable pub named_signals : ℕ → Bool
named_signals g = ltb (light_pen_in g) 3

abbrev pub named : Gdp → Bool
named b = named_modes b.modes && named_signals b.signals

-- the format
abbrev pub format_of : Gdp → Format
format_of b = format_at (format_in b.modes)

-- the frames of a clear; bit 7 is not looked at where the format takes one frame
abbrev pub over_in : ℕ → ℕ
over_in m = min (m / 128) (frames (format_at (format_in m)) - 1)

unfoldable pub frames_in : ℕ → Frames
frames_in m = record { inside = bit_at 6 m; over = over_in m }

-- the registers, and others in their place
abbrev pub regs_of : Gdp → Regs
regs_of b =
    record {
      ctrl1 = b.ctrl1;
      ctrl2 = b.ctrl2;
      csize = b.csize;
      deltax = b.deltax;
      deltay = b.deltay;
      x = b.x;
      y = b.y;
      xlp = b.xlp;
      ylp = b.ylp;
    }

abbrev pub put_regs : Regs → Gdp → Gdp
put_regs r b =
    record {
      x = r.x;
      y = r.y;
      done = b.done;
      ctrl1 = r.ctrl1;
      ctrl2 = r.ctrl2;
      csize = r.csize;
      deltax = r.deltax;
      deltay = r.deltay;
      xlp = r.xlp;
      ylp = r.ylp;
      code = b.code;
      modes = b.modes;
      signals = b.signals;
    }

-- the state that sixteen bytes stand for; a number that names nothing is read as the last, and what is not in use is not read
unfoldable pub state_of : Gdp → State
state_of b =
    record {
      format = format_of b;
      regs = regs_of b;
      work = work_at (work_in b.modes) b.code b.done (bit_at 5 b.modes) (frames_in b.modes);
      light_pen = light_pen_at (light_pen_in b.signals);
      vb = bit_at 1 b.signals;
      flags = record { light_pen = bit_at 4 b.signals; vb = bit_at 5 b.signals; ready = bit_at 6 b.signals };
    }
