pub mod Bit
pub mod Dot
pub mod Screen
pub mod Tables
pub mod Working
