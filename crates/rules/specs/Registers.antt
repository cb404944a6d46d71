-- The registers at their addresses: what an accepted read gives and leaves, what an accepted write stores.
-- Assumes nothing.
use Rattle.std.specs.Prelude.{ℕ, ◌+◌, ◌*◌, ◌/◌, ◌%◌, false, cond, ◌||◌, eqb}
use Rattle.picture.specs.Bit.{with_bit}
use Rattle.rules.specs.State.{Regs, State, with_ctrl1, with_ctrl2, with_csize, with_deltax, with_deltay, with_x, with_y, with_lpck, with_regs, with_flags, flags}
use Rattle.rules.specs.Status.{status}

-- 0 STATUS; 1 CTRL1; 2 CTRL2; 3 CSIZE; 5 DELTAX; 7 DELTAY; 8 and 9 X, upper 4 bits then lower 8; A and B Y; C XLP; D YLP
unfoldable pub register_at : State → ℕ → ℕ
register_at s a =
    cond (eqb a 0x0) (status s)
    (cond (eqb a 0x1) s.regs.ctrl1
    (cond (eqb a 0x2) s.regs.ctrl2
    (cond (eqb a 0x3) s.regs.csize
    (cond (eqb a 0x5) s.regs.deltax
    (cond (eqb a 0x7) s.regs.deltay
    (cond (eqb a 0x8) (s.regs.x / 256)
    (cond (eqb a 0x9) (s.regs.x % 256)
    (cond (eqb a 0xA) (s.regs.y / 256)
    (cond (eqb a 0xB) (s.regs.y % 256)
    (cond (eqb a 0xC) s.regs.xlp
    (cond (eqb a 0xD) s.regs.ylp
    0)))))))))))

-- after XLP or YLP is read, the lowest bit of XLP is 0
unfoldable pub light_pen_read : Regs → Regs
light_pen_read r = with_lpck (with_bit false 0 r.xlp) r.ylp r

-- reading STATUS clears the flags; other reads change nothing
unfoldable pub after_read : State → ℕ → State
after_read s a =
    cond (eqb a 0x0) (with_flags (flags false false false) s)
    (cond (eqb a 0xC || eqb a 0xD) (with_regs (light_pen_read s.regs) s)
    s)

-- CTRL1 has 7 bits, CTRL2 4, X and Y 12: unused bits are dropped on writing
unfoldable pub stored : Regs → ℕ → ℕ → Regs
stored r a v =
    cond (eqb a 0x1) (with_ctrl1 (v % 128) r)
    (cond (eqb a 0x2) (with_ctrl2 (v % 16) r)
    (cond (eqb a 0x3) (with_csize v r)
    (cond (eqb a 0x5) (with_deltax v r)
    (cond (eqb a 0x7) (with_deltay v r)
    (cond (eqb a 0x8) (with_x (v % 16 * 256 + r.x % 256) r)
    (cond (eqb a 0x9) (with_x (r.x / 256 * 256 + v) r)
    (cond (eqb a 0xA) (with_y (v % 16 * 256 + r.y % 256) r)
    (cond (eqb a 0xB) (with_y (r.y / 256 * 256 + v) r)
    r))))))))
