-- STATUS.
-- Assumes nothing.
use Rattle.std.specs.Prelude.{ℕ, ◌+◌, ◌*◌, Bool, ◌||◌, leb}
use Rattle.picture.specs.Bit.{digit}
use Rattle.parts.specs.Format.{width, height}
use Rattle.rules.specs.Sequence.{ready, no_sequence}
use Rattle.rules.specs.State.{State}

-- the OR of the unused upper bits of X and Y: the position is at or past width or height
unfoldable pub outside : State → Bool
outside s = leb (width s.format) s.regs.x || leb (height s.format) s.regs.y

-- any flag
unfoldable pub flagged : State → Bool
flagged s = s.flags.light_pen || s.flags.vb || s.flags.ready

-- bit 0 no pen sequence under way; 1 VB; 2 ready; 3 outside; 4, 5, 6 the flags for pen end, VB, ready; 7 their OR
unfoldable pub status : State → ℕ
status s =
    digit (no_sequence s.light_pen)
    + 2 * digit s.vb
    + 4 * digit (ready s.work)
    + 8 * digit (outside s)
    + 16 * digit s.flags.light_pen
    + 32 * digit s.flags.vb
    + 64 * digit s.flags.ready
    + 128 * digit (flagged s)
