-- Bytes, states and answers as rows of numbers: the ground of the tables.
-- Assumes nothing.
use Rattle.std.specs.Prelude.{ℕ, List, [], ◌∷◌, ◌++◌}
use Rattle.basis.specs.Reading.{joined, told}
use Rattle.parts.specs.declared.format.Format.{Format}
use Rattle.parts.specs.declared.format.Format.TheVariants.{Ef9366, FmatHigh, FmatLow}
use Rattle.rules.specs.Sequence.{Work, Idle, Steps, Clear, LightPen, Off, Waiting, Open}
use Rattle.rules.specs.State.{Regs, State}
use Rattle.rules.specs.Tables.Rows.{frames_told}
use Rattle.gdp.specs.declared.state.Gdp.{Gdp}
use Rattle.gdp.specs.declared.state.Answer.{Answer}
use Rattle.gdp.specs.declared.address.Outputs.{Outputs}

-- f of each in a list, put together; a list k times over
unfoldable pub over : {A : Type 0} → List A → (A → List ℕ) → List ℕ
over [] f = []
over (a ∷ rest) f = f a ++ over rest f

unfoldable pub times : ℕ → List ℕ → List ℕ
times k l = joined (λ (i : ℕ). l) 0 k

-- sixteen bytes, in the order of include/gdp.h: x, y, done, ctrl1, ctrl2, csize, deltax, deltay, xlp, ylp, code, modes, signals
unfoldable pub bytes : ℕ → ℕ → ℕ → ℕ → ℕ → ℕ → ℕ → ℕ → ℕ → ℕ → ℕ → ℕ → ℕ → Gdp
bytes x y n c1 c2 cs dx dy xl yl c m g =
    record {
      x = x;
      y = y;
      done = n;
      ctrl1 = c1;
      ctrl2 = c2;
      csize = cs;
      deltax = dx;
      deltay = dy;
      xlp = xl;
      ylp = yl;
      code = c;
      modes = m;
      signals = g;
    }

unfoldable pub byte_row : Gdp → List ℕ
byte_row b =
    b.x ∷ b.y ∷ b.done ∷ b.ctrl1 ∷ b.ctrl2 ∷ b.csize ∷ b.deltax ∷ b.deltay ∷ b.xlp ∷ b.ylp ∷ b.code ∷ b.modes ∷ b.signals ∷ []

-- a state: its registers, then 0 to 2 for the format; 0 for idle, 1, code and progress, or 2, 0C and the frames (1 where one is
-- open and 2 for each that is over); 0 to 2 for the pen's sequence; VB; the flags for pen end, VB and ready
unfoldable pub regs_row : Regs → List ℕ
regs_row r = r.ctrl1 ∷ r.ctrl2 ∷ r.csize ∷ r.deltax ∷ r.deltay ∷ r.x ∷ r.y ∷ r.xlp ∷ r.ylp ∷ []

unfoldable pub format_row : Format → ℕ
format_row Ef9366 = 0
format_row FmatHigh = 1
format_row FmatLow = 2

unfoldable pub work_row : Work → List ℕ
work_row Idle = 0 ∷ 0 ∷ 0 ∷ []
work_row (Steps c p) = 1 ∷ c ∷ p ∷ []
work_row (Clear f o) = 2 ∷ told f ∷ frames_told o ∷ []

unfoldable pub pen_row : LightPen → ℕ
pen_row Off = 0
pen_row Waiting = 1
pen_row Open = 2

unfoldable pub state_row : State → List ℕ
state_row s =
    regs_row s.regs
    ++ (format_row s.format
    ∷ (work_row s.work
    ++ (pen_row s.light_pen ∷ told s.vb ∷ told s.flags.light_pen ∷ told s.flags.vb ∷ told s.flags.ready ∷ [])))

-- an answer and the address outputs
unfoldable pub answer_row : Answer → List ℕ
answer_row a = a.number ∷ a.value ∷ byte_row a.state

unfoldable pub outputs_row : Outputs → List ℕ
outputs_row o = o.number ∷ o.low ∷ o.high ∷ o.msl ∷ []
