pub mod Laws
mod Codes
mod Formats
mod Joins
mod Refusals
mod Reversal
mod Select
mod Unique
mod Readings
