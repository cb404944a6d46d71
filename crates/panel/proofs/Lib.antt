pub mod LineLengths
pub mod Answers
pub mod DotLines
pub mod Records
pub mod Letters
pub mod Steps
pub mod Playing
pub mod Whole
pub mod Pictures
mod Readings
pub mod Longest
pub mod Settled
