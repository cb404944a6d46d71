-- The laws of how the pen moves that crates above may cite.
-- Assumes nothing.
pub use Rattle.motion.proofs.Positions.{ahead_range, behind_range, ahead_ahead, behind_ahead, ahead_behind, same_spot}
pub use Rattle.motion.proofs.Offsets.{carry, carry_most, error_lt, error_next, near, closest, offset_end}
pub use Rattle.motion.proofs.Vectors.{vector_near, vector_next, vector_from, along_span}
pub use Rattle.motion.proofs.Counting.{Splits, splits, whole}
pub use Rattle.motion.proofs.Characters.{scale_some, character_cycles, block_cycles, character_most, block_most, character_column, block_column, way_at, laid_on, end_way_lem}
pub use Rattle.motion.proofs.Cells.{split_i, split_u}
pub use Rattle.motion.proofs.Glyphs.{solid_inked}
