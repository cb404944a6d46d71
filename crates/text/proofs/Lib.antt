pub mod Laws
mod Decimals
mod Numbers
mod Pieces
mod Fields
mod Lines
mod Writing
mod Settled
mod Readings
