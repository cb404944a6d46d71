-- Worked examples, as tables: what the definitions give beside what the paper says. None of it has to be believed.
pub mod Items
pub mod Calls
pub mod Plays
pub mod Readings
pub mod Computed
