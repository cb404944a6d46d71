-- What an accepted command does at once.
-- Assumes nothing.
use Rattle.std.specs.Prelude.{ℕ, Bool, true, false, cond, ◌||◌, eqb}
use Rattle.picture.specs.Bit.{with_bit}
use Rattle.motion.specs.Position.{spot}
use Rattle.parts.specs.Command.{kind, prompting}
use Rattle.rules.specs.Sequence.{Steps, Clear, no_frames, Waiting}
use Rattle.rules.specs.State.{Regs, State, regs, with_ctrl1, with_x, with_y, with_place, with_regs, with_work, with_light_pen, ready_raises}
use Rattle.rules.specs.Registers.{stored}

-- the registers on acceptance: 00 and 01 set and clear CTRL1 bit 1, 02 and 03 bit 0; 05 and 06 put X and Y to 0, 0D X, 0E Y;
-- 07 puts CSIZE to 11 and the others to 0, except XLP and YLP
unfoldable pub commanded : Regs → ℕ → Regs
commanded r c =
    cond (eqb c 0x00) (with_ctrl1 (with_bit true 1 r.ctrl1) r)
    (cond (eqb c 0x01) (with_ctrl1 (with_bit false 1 r.ctrl1) r)
    (cond (eqb c 0x02) (with_ctrl1 (with_bit true 0 r.ctrl1) r)
    (cond (eqb c 0x03) (with_ctrl1 (with_bit false 0 r.ctrl1) r)
    (cond (eqb c 0x05 || eqb c 0x06) (with_place (spot 0 0) r)
    (cond (eqb c 0x07) (regs 0 0 0x11 0 0 0 0 r.xlp r.ylp)
    (cond (eqb c 0x0D) (with_x 0 r)
    (cond (eqb c 0x0E) (with_y 0 r)
    r)))))))

-- 04, 06, 07 and 0C: ready falls until the last frame is over
unfoldable pub clearing : ℕ → Bool
clearing c = eqb c 0x04 || eqb c 0x06 || eqb c 0x07 || eqb c 0x0C

-- a command without write cycles: a clear waits for its first frame; in the others ready falls and rises within the call,
-- and 08 and 09 begin the pen's sequence, afresh where one is under way
unfoldable pub prompt : State → ℕ → State
prompt s c =
    cond (clearing c) (with_work (Clear (eqb c 0x0C) no_frames) s)
    (cond (eqb c 0x08 || eqb c 0x09) (with_light_pen Waiting (ready_raises s))
    (ready_raises s))

-- a command with write cycles has used none yet
unfoldable pub begun : State → ℕ → State
begun s c = cond (prompting (kind c)) (prompt (with_regs (commanded s.regs c) s) c) (with_work (Steps c 0) s)

-- an accepted write: address 0 is CMD
unfoldable pub after_write : State → ℕ → ℕ → State
after_write s a v = cond (eqb a 0x0) (begun s v) (with_regs (stored s.regs a v) s)
