-- VB and LPCK: frames begin at a VB fall and end at a VB rise.
-- Assumes nothing.
use Rattle.std.specs.Prelude.{ℕ, ◌+◌, ◌*◌, Bool, true, false, cond, ◌&&◌, not, List}
use Rattle.picture.specs.Dot.{whole}
use Rattle.parts.specs.Format.{frames}
use Rattle.rules.specs.Sequence.{Idle, Off, light_pen_open, work_falls, light_pen_falls, work_rises, in_last, clear_lights}
use Rattle.rules.specs.State.{State, with_lpck, with_regs, with_work, with_light_pen, with_vb, light_pen_raises, vb_raises, ready_raises}
use Rattle.rules.specs.Cycles.{lights}

-- VB falls: the frames of a clear and of a pen sequence that wait for one open
unfoldable pub fallen : State → State
fallen s = with_vb false (with_light_pen (light_pen_falls s.light_pen) (with_work (work_falls s.work) s))

-- a VB rise ends a clear that is inside the last of the frames that its format takes
abbrev pub ends_clear : State → Bool
ends_clear s = in_last (frames s.format) s.work

-- VB rises: it ends a clear, and ready rises, or an earlier frame of one; it ends an open frame of the pen, and with it the
-- sequence
unfoldable pub clear_ends : State → State
clear_ends s = cond (ends_clear s) (ready_raises (with_work Idle s)) (with_work (work_rises s.work) s)

unfoldable pub light_pen_ends : State → State
light_pen_ends s = cond (light_pen_open s.light_pen) (light_pen_raises (with_light_pen Off s)) s

unfoldable pub risen : State → State
risen s = with_vb true (vb_raises (light_pen_ends (clear_ends s)))

-- a VB call with the present level changes nothing
unfoldable pub after_vb : State → Bool → State
after_vb s level = cond s.vb (cond level s (fallen s)) (cond level (risen s) s)

-- the picture changes whole at the VB rise that ends a clear
unfoldable pub picture_vb : State → Bool → List ℕ → List ℕ
picture_vb s level picture =
    cond (not s.vb && level && ends_clear s) (whole (clear_lights s.work (lights s.regs)) picture) picture

-- in the open frame an LPCK edge loads XLP with 4h + 1 and YLP with v, and ends the sequence; at other times it does nothing
unfoldable pub after_edge : State → ℕ → ℕ → State
after_edge s h v =
    cond (light_pen_open s.light_pen) (light_pen_raises (with_light_pen Off (with_regs (with_lpck (4 * h + 1) v s.regs) s))) s
