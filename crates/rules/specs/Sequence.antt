-- What goes on for a time: a running command, and the light pen's sequence, as STATUS shows them and as VB moves them.
-- Assumes nothing.
use Rattle.std.specs.Prelude.{ℕ, ◌+◌, Bool, true, false, cond, ◌&&◌, leb}

-- the frames of a clear, which begin at a VB fall after acceptance: whether it is inside one, and how many are over
pub record Frames : Type 0 where
  pub inside : Bool
  pub over : ℕ

-- what runs: nothing; a command of some code that has used some of its write cycles; a clear, with its frames; as 0C it fills,
-- which sets every dot as CTRL1 bit 1 says, where the others darken
pub data Work : Type 0 where
  Idle : Work
  Steps : (code done : ℕ) → Work
  Clear : (fill : Bool) (at : Frames) → Work

-- the light pen's sequence, from 08 or 09 to its end: none, waiting for its frame, in it
pub data LightPen : Type 0 where
  Off : LightPen
  Waiting : LightPen
  Open : LightPen

-- ready: no command runs
abbrev pub ready : Work → Bool
ready Idle = true
ready (Steps c p) = false
ready (Clear f o) = false

-- no pen sequence is under way
abbrev pub no_sequence : LightPen → Bool
no_sequence Off = true
no_sequence Waiting = false
no_sequence Open = false

-- a clear just accepted waits for its first frame
abbrev pub no_frames : Frames
no_frames = record { inside = false; over = 0 }

-- a clear is inside a frame; the pen's sequence is inside its frame
abbrev pub clear_open : Work → Bool
clear_open Idle = false
clear_open (Steps c p) = false
clear_open (Clear f o) = o.inside

abbrev pub light_pen_open : LightPen → Bool
light_pen_open Off = false
light_pen_open Waiting = false
light_pen_open Open = true

-- the frames of a clear that are over
abbrev pub frames_over : Work → ℕ
frames_over Idle = 0
frames_over (Steps c p) = 0
frames_over (Clear f o) = o.over

-- a VB fall opens a frame of a clear that waits for one, and of a pen sequence that waits
abbrev pub work_falls : Work → Work
work_falls Idle = Idle
work_falls (Steps c p) = Steps c p
work_falls (Clear f o) = Clear f (record { inside = true; over = o.over })

abbrev pub light_pen_falls : LightPen → LightPen
light_pen_falls Off = Off
light_pen_falls Waiting = Open
light_pen_falls Open = Open

-- a VB rise ends the open frame of a clear
abbrev pub work_rises : Work → Work
work_rises Idle = Idle
work_rises (Steps c p) = Steps c p
work_rises (Clear f o) = Clear f (record { inside = false; over = cond o.inside (o.over + 1) o.over })

-- and a clear of k frames with the last of them
abbrev pub in_last : ℕ → Work → Bool
in_last k w = clear_open w && leb k (frames_over w + 1)

-- and what the clear leaves: every dot lit where it is 0C and CTRL1 bit 1 is high, else every dot dark
abbrev pub clear_lights : Work → Bool → Bool
clear_lights Idle bit1 = false
clear_lights (Steps c p) bit1 = false
clear_lights (Clear f o) bit1 = f && bit1
