pub mod Pieces
pub mod Numbers
pub mod Found
pub mod Taken
pub mod Wrote
pub mod Tables
pub mod Working
