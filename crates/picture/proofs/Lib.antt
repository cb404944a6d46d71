pub mod Laws
mod Bits
mod Masks
mod Dots
mod Order
mod Runs
mod Screens
mod Readings
