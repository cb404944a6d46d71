-- A state as a row of numbers, so that a reading shows all of it: 0 the format; 1 to 9 CTRL1, CTRL2, CSIZE, DELTAX, DELTAY, X, Y,
-- XLP, YLP; 10 what runs (0 nothing, 1 a command with cycles, 2 a clear), 11 its code, 12 its progress, 13 whether it fills, 14
-- its frames, 1 where one is open and 2 for each that is over; 15 the pen's sequence (0 none, 1 waiting, 2 open); 16 VB; 17 to 19 the
-- flags for pen end, VB and ready.
-- Assumes nothing.
use Rattle.std.specs.Prelude.{ℕ, ◌+◌, ◌*◌, ◌/◌, ◌%◌, Bool, cond, List, [], ◌∷◌, eqb, get_or, set}
use Rattle.basis.specs.Reading.{told}
use Rattle.parts.specs.declared.format.Format.{Format}
use Rattle.parts.specs.declared.format.Format.TheVariants.{Ef9366, FmatHigh, FmatLow}
use Rattle.rules.specs.Sequence.{Frames, Work, Idle, Steps, Clear, LightPen, Off, Waiting, Open}
use Rattle.rules.specs.State.{State}
use Rattle.rules.specs.Calls.{Answer, written, read_out, struck}

-- number i of a row, and the row with another number there
unfoldable pub nth : ℕ → List ℕ → ℕ
nth i r = get_or r i 0

unfoldable pub but : ℕ → ℕ → List ℕ → List ℕ
but i v r = set r i v

unfoldable pub high : ℕ → Bool
high n = eqb n 1

unfoldable pub format_named : ℕ → Format
format_named n = cond (eqb n 0) Ef9366 (cond (eqb n 1) FmatHigh FmatLow)

unfoldable pub pen_named : ℕ → LightPen
pen_named n = cond (eqb n 0) Off (cond (eqb n 1) Waiting Open)

unfoldable pub frames_named : ℕ → Frames
frames_named n = record { inside = high (n % 2); over = n / 2 }

unfoldable pub work_named : ℕ → ℕ → ℕ → Bool → Frames → Work
work_named n c p f o = cond (eqb n 0) Idle (cond (eqb n 1) (Steps c p) (Clear f o))

-- the state of a row
unfoldable pub stated : List ℕ → State
stated r =
    record {
      format = format_named (nth 0 r);
      regs = record {
        ctrl1 = nth 1 r;
        ctrl2 = nth 2 r;
        csize = nth 3 r;
        deltax = nth 4 r;
        deltay = nth 5 r;
        x = nth 6 r;
        y = nth 7 r;
        xlp = nth 8 r;
        ylp = nth 9 r;
      };
      work = work_named (nth 10 r) (nth 11 r) (nth 12 r) (high (nth 13 r)) (frames_named (nth 14 r));
      light_pen = pen_named (nth 15 r);
      vb = high (nth 16 r);
      flags = record { light_pen = high (nth 17 r); vb = high (nth 18 r); ready = high (nth 19 r) };
    }

unfoldable pub format_told : Format → ℕ
format_told Ef9366 = 0
format_told FmatHigh = 1
format_told FmatLow = 2

unfoldable pub pen_told : LightPen → ℕ
pen_told Off = 0
pen_told Waiting = 1
pen_told Open = 2

unfoldable pub frames_told : Frames → ℕ
frames_told o = told o.inside + 2 * o.over

unfoldable pub work_told : Work → List ℕ → List ℕ
work_told Idle rest = 0 ∷ 0 ∷ 0 ∷ 0 ∷ 0 ∷ rest
work_told (Steps c p) rest = 1 ∷ c ∷ p ∷ 0 ∷ 0 ∷ rest
work_told (Clear f o) rest = 2 ∷ 0 ∷ 0 ∷ told f ∷ frames_told o ∷ rest

-- the row of a state
unfoldable pub shown : State → List ℕ
shown s =
    format_told s.format
    ∷ s.regs.ctrl1
    ∷ s.regs.ctrl2
    ∷ s.regs.csize
    ∷ s.regs.deltax
    ∷ s.regs.deltay
    ∷ s.regs.x
    ∷ s.regs.y
    ∷ s.regs.xlp
    ∷ s.regs.ylp
    ∷ work_told s.work
    (pen_told s.light_pen ∷ told s.vb ∷ told s.flags.light_pen ∷ told s.flags.vb ∷ told s.flags.ready ∷ [])

-- number, value and row of an answer
unfoldable pub answered : Answer → List ℕ
answered a = a.number ∷ a.value ∷ shown a.state

-- a call on the state of a row
unfoldable pub writes : List ℕ → ℕ → ℕ → List ℕ
writes r a v = answered (written (stated r) a v)

unfoldable pub reads : List ℕ → ℕ → List ℕ
reads r a = answered (read_out (stated r) a)

unfoldable pub strikes : List ℕ → ℕ → ℕ → List ℕ
strikes r h v = answered (struck (stated r) h v)

-- what is expected: accepted with a value, and refused with a number and the row as it was
unfoldable pub gives : ℕ → List ℕ → List ℕ
gives v r = 0 ∷ v ∷ r

unfoldable pub refuses : ℕ → List ℕ → List ℕ
refuses n r = n ∷ 0 ∷ r

-- an idle EF9366 whose registers all differ: CTRL1 75, CTRL2 0A, CSIZE 23, DELTAX 85, DELTAY C7, X 9AB, Y CDE, XLP F5, YLP D9
unfoldable pub rich : List ℕ
rich =
    0 ∷ 0x75 ∷ 0x0A ∷ 0x23 ∷ 0x85 ∷ 0xC7 ∷ 0x9AB ∷ 0xCDE ∷ 0xF5 ∷ 0xD9
    ∷ 0 ∷ 0 ∷ 0 ∷ 0 ∷ 0 ∷ 0 ∷ 0 ∷ 0 ∷ 0 ∷ 0 ∷ []
