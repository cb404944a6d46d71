-- `unfolding computed` opens every definition of this crate and of those below, for what is proved by computation.
-- Assumes nothing.
use Rattle.basis.specs.Reading.{computed as reading}
use Rattle.rules.specs.Tables.Computed.{computed as of-rules}
use Rattle.gdp.specs.Flat.{light_pen_at, work_at, modes_of, signals_of, flat, named_modes, named_signals, frames_in, state_of}
use Rattle.gdp.specs.Calls.{flawed, answer_of, outputs_of, all_ones, fresh_answer}
use Rattle.gdp.specs.Tables.Rows.{over, times, bytes, byte_row, regs_row, format_row, work_row, pen_row, state_row, answer_row, outputs_row}
use Rattle.gdp.specs.Tables.Layout.{own, own_bytes, formats, works, pens, levels, all_flat, modes_rows, signals_rows, all_bytes, flat_all, flat_bit, own_regs, of_modes, modes_read, frames_read, of_signals, signals_read, state_all, state_bit, largest, named_by_modes, named_by_signals, is_named, layout}
use Rattle.gdp.specs.Tables.Answers.{is_flawed, flawed_by, flawed_step, flaws, verdict, valued, came, goes, place, modes_after, answer_readings}
use Rattle.gdp.specs.Tables.Readings.{readings}

unfoldable pub computed : Unit {0}
unfolding reading of-rules light_pen_at work_at modes_of signals_of flat named_modes named_signals frames_in state_of flawed answer_of outputs_of all_ones fresh_answer over times bytes byte_row regs_row format_row work_row pen_row state_row answer_row outputs_row own own_bytes formats works pens levels all_flat modes_rows signals_rows all_bytes flat_all flat_bit own_regs of_modes modes_read frames_read of_signals signals_read state_all state_bit largest named_by_modes named_by_signals is_named layout is_flawed flawed_by flawed_step flaws verdict valued came goes place modes_after answer_readings readings
computed = tt
