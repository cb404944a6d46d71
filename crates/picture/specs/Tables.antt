-- Worked examples, as a table: what the definitions give beside what the paper says. None of it has to be believed.
pub mod Bits
pub mod Dots
pub mod Readings
pub mod Computed
