pub mod Laws
mod Positions
mod Offsets
mod Vectors
mod LineTypes
mod Counting
mod Characters
mod Cells
mod Glyphs
mod Readings
