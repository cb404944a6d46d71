-- The form of the tables of readings. Nothing here speaks of the chip.
pub mod Reading
