-- The laws of the parts that need no register file that crates above may cite.
-- Assumes nothing.
pub use Rattle.parts.proofs.Codes.{letter_codes, line_kind}
pub use Rattle.parts.proofs.Formats.{width_power, height_power, memory, screen, frames_some, frames_most}
pub use Rattle.parts.proofs.Refusals.{number_some, number_apart, number_small, lowest_first, lowest_zero, lowest_most}
pub use Rattle.parts.proofs.Unique.{unique}
