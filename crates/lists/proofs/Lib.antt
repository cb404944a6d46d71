pub mod Demand3
pub mod Laws
pub mod Erasing
pub mod Again
pub mod Ways
pub mod Back
pub mod Played
pub mod Between
pub mod Twin
pub mod Items
pub mod Splits
mod Readings
