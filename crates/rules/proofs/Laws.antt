-- The laws of the processor as document 01 has it that crates above may cite.
-- Assumes nothing.
pub use Rattle.rules.proofs.Figures.{figure_kept, cycles_kept, block_full}
pub use Rattle.rules.proofs.GoodParts.{good_from, good_to, stored_good, commanded_good, ready_work, regs_put, flags_put}
pub use Rattle.rules.proofs.Good.{some_cycles, write_accepted, fresh_good, after_good, write_good, read_good, grant_good, vb_good, edge_good}
pub use Rattle.rules.proofs.Split.{after_steps, dots_steps, left_steps, Still, idle_still, clear_still, joined}
pub use Rattle.rules.proofs.Grants.{after_format, after_lights, grant_taken, grants_join}
pub use Rattle.rules.proofs.Memory.{Below, dots_below}
pub use Rattle.rules.proofs.Frames.{fresh_frame, write_frame, read_frame, grant_frame, blank_frame, edge_frame}
pub use Rattle.rules.proofs.NoClear.{clears, falls_same, rises_same, none_ends, vb_memory}
pub use Rattle.rules.proofs.Clears.{clear_comes, clears_come}
pub use Rattle.rules.proofs.ReadyFlag.{ready_raises_lem}
