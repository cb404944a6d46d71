-- Worked examples, as a table: what the definitions give beside what the paper says. None of it has to be believed.
pub mod Positions
pub mod Vectors
pub mod Lines
pub mod Characters
pub mod Readings
pub mod Computed
