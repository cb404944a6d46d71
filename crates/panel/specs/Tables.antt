-- Worked examples, as tables: what the definitions give beside what the paper says. None of it has to be believed.
pub mod Records
pub mod Outputs
pub mod Example
pub mod Readings
pub mod Computed
