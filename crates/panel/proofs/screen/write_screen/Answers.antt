-- `panel::screen::write_screen` meets its contract: the lines leave the picture, and its file is written.
-- Assumes nothing.
use mathlib.Core.Path.{refl}
use Rattle.parts.specs.Refusal.{refusal_number}
use Rattle.pbm.specs.Calls.{told}
use Rattle.panel.proofs.Pictures.{screen_short, screen_long, screen_shown}
use Rattle.panel.proofs.screen.write_screen.Goals as goal

pub returns-then-out-file_bytes : goal.returns-then-out-file_bytes
unfolding told refusal_number
returns-then-out-file_bytes c =
    let a = c.args in
    screen_short a.input.now a.out.now c.file_bytes.ensures c.if-out-file_bytes.true refl

pub returns-then-input-gt65536 : goal.returns-then-input-gt65536
unfolding told refusal_number
returns-then-input-gt65536 c =
    let a = c.args in
    screen_long a.input.now a.out.now c.file_bytes.ensures c.if-out-file_bytes.false c.if-input-gt65536.true refl

pub returns : goal.returns
returns c =
    let a = c.args in
    screen_shown a.input.now a.out.now c.file_bytes.ensures c.if-out-file_bytes.false c.if-input-gt65536.false
    c.play_lines.ensures.pic_after.0
    c.write_pbm.ensures
