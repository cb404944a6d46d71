-- Worked examples, as tables: what the definitions give beside what the paper says.
pub mod Play
pub mod Readings
pub mod MoreReadings
pub mod FineReadings
pub mod Rows
pub mod RegisterRows
pub mod CommandRows
pub mod FrameRows
pub mod DrawRows
pub mod RefusalRows
pub mod FormatRows
pub mod FreeRows
pub mod Slants
pub mod TwoFrames
pub mod Computed
