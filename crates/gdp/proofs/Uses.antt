-- What the attributes of the code name: laws that go together, and definitions that are opened together.
-- Assumes nothing.
use Rattle.parts.specs.Refusal.{lowest, refusal_number}
use Rattle.rules.specs.State.{fresh}
use Rattle.rules.specs.Status.{status, flagged}
use Rattle.rules.specs.Registers.{register_at, after_read}
use Rattle.rules.specs.Commands.{commanded, clearing, prompt, after_write}
use Rattle.rules.specs.Refusals.{no_register, busy, off_screen}
use Rattle.rules.specs.Calls.{no_outputs}
use Rattle.gdp.specs.Flat.{modes_of, signals_of, flat, state_of}
use Rattle.gdp.specs.Working.Steps.{flat_answer, rests_at}
use Rattle.gdp.proofs.Bytes.{named_put, named_signals_lem, signals_fall_lem, fall_code, fall_done, rise_code, rise_done}
use Rattle.gdp.proofs.ClearBytes.{modes_fall_lem, modes_rise_lem}
use Rattle.gdp.proofs.Counts.{bad_letter, bad_line, bad_other}
use Rattle.gdp.proofs.Flaws.{rests, sound_named, stray_flawed, step_flawed, other_sound}
use Rattle.gdp.proofs.Frames.{clear_paints, clear_keeps}
use Rattle.gdp.proofs.Told.{passed, write_told, read_told, edge_told}

-- each call by the lowest number, and what it then does
pub ruleset reads = (read_told, sound_named)

pub ruleset writes = (write_told, sound_named, rests)

pub ruleset edges = (edge_told, sound_named, passed)

-- refusal 1 in its parts
pub ruleset flaws = (stray_flawed, step_flawed, other_sound)

pub ruleset bad_steps = (bad_letter, bad_line, bad_other)

-- the two bytes of small fields: put together, at a fall of VB and at a rise; and the picture at a clear's end
pub ruleset puts = (named_put, named_signals_lem)

pub ruleset falls = (modes_fall_lem, signals_fall_lem, fall_code, fall_done)

pub ruleset rises = (modes_rise_lem, rise_code, rise_done)

pub ruleset paints = (clear_paints, clear_keeps)

-- a state's bytes, and the state of bytes
unfoldable pub bytes : Unit {0}
unfolding flat state_of
bytes = tt

unfoldable pub fresh_bytes : Unit {0}
unfolding flat fresh modes_of signals_of
fresh_bytes = tt

-- the refusals by their numbers
unfoldable pub refusals : Unit {0}
unfolding lowest refusal_number no_register off_screen no_outputs
refusals = tt

-- and what follows where there is none
unfoldable pub reading : Unit {0}
unfolding refusals register_at after_read state_of
reading = tt

unfoldable pub writing : Unit {0}
unfolding lowest refusal_number after_write flat state_of
writing = tt

unfoldable pub prompts : Unit {0}
unfolding commanded clearing prompt flat
prompts = tt

unfoldable pub rest : Unit {0}
unfolding rests_at flat_answer state_of
rest = tt

unfoldable pub flagging : Unit {0}
unfolding status flagged busy state_of
flagging = tt
