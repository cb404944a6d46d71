-- Worked examples, as tables: what the definitions give beside what the paper says. None of it has to be believed.
pub mod Files
pub mod Texts
pub mod Heads
pub mod Dots
pub mod Calls
pub mod Gaps
pub mod Readings
pub mod Computed
