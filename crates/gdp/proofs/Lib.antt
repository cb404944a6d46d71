pub mod Laws
mod Packing
mod Bytes
mod ClearBytes
mod Counts
mod Flaws
mod Told
mod Frames
mod Across
mod Steps
mod Settled
mod Readings
mod Uses
