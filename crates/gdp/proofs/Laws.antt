-- The laws of the struct of sixteen bytes that crates above may cite.
-- Assumes nothing.
pub use Rattle.gdp.proofs.Packing.{back, stands_frame, flat_named}
pub use Rattle.gdp.proofs.Across.{written_across, read_across, struck_across, located_across, granted_across, blanked_across}
