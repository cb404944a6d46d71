pub mod Settled
mod Formats
mod Readings
