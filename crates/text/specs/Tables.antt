-- Worked examples, as a table: what the definitions give beside what the paper says. None of it has to be believed.
pub mod Digits
pub mod Parted
pub mod Readings
pub mod Computed
