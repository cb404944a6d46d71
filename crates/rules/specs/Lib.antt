-- The files here are to be held against the paper, in this order. What stands in Tables and Working needs no belief.
pub mod Sequence
pub mod State
pub mod Status
pub mod Registers
pub mod Commands
pub mod Figure
pub mod Cycles
pub mod Blanking
pub mod Refusals
pub mod Calls
pub mod Card
pub mod Frames
pub mod Tables
pub mod Working
