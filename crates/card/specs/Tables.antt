-- Worked examples, as a table: what the definitions give beside what the paper says. None of it has to be believed.
pub mod Numbers
pub mod Readings
pub mod Computed
