-- `panel::log::play` meets its contract: the three pieces stand one behind the other at the buffer's start.
-- Assumes nothing.
use native.Mathlib.Omega.{arith}
use borrow.Author.Rules.{rules}
use Rattle.parts.specs.Refusal.{refusal_number}
use Rattle.panel.proofs.LineLengths.{line_g_length}
use Rattle.panel.proofs.Whole.{panel_long, gives_output, gives_nothing, all_written}
use Rattle.panel.proofs.log.play.Goals as goal

pub returns-then-out-lt-LONGEST : goal.returns-then-out-lt-LONGEST
returns-then-out-lt-LONGEST c = gives_nothing c.if-out-lt-LONGEST.true

pub put_e-requires : goal.put_e-requires
put_e-requires c = (omega arith, omega arith)

pub returns-then-input-gt65536 : goal.returns-then-input-gt65536
unfolding refusal_number
returns-then-input-gt65536 c =
    let e = rw (← panel_long c.args.input.now c.if-input-gt65536.true) at c.put_e.ensures.0 in
    gives_output c.if-out-lt-LONGEST.false (search rules)

pub play_lines-requires : goal.play_lines-requires
play_lines-requires c =
    let w = c.put_g.ensures.wrote in
    let long = c.if-out-lt-LONGEST.false in
    (c.if-input-gt65536.false, c.dark_picture-pic.ensures, c.blank_table-table.ensures, omega (arith, w.end, w.size, line_g_length, long))

pub put_dots-requires : goal.put_dots-requires
put_dots-requires c =
    let w = c.put_g.ensures.wrote in
    let p = c.play_lines.ensures in
    let long = c.if-out-lt-LONGEST.false in (
      omega (arith, c.play_lines.auto.pic),
      omega (arith, w.end, w.size, line_g_length, long, p.wrote.wrote.size, p.pic_after.1),
    )

pub returns : goal.returns
returns c =
    let p = c.play_lines.ensures in
    let all = all_written c.args.input.now c.if-input-gt65536.false c.put_g.ensures p.wrote p.pic_after.0 c.put_dots.ensures.0 in
    gives_output c.if-out-lt-LONGEST.false (search rules)
