pub mod Laws
mod Readings
mod RowReadings
mod Figures
mod GoodParts
mod Good
mod Split
mod Grants
mod Memory
mod Frames
mod Alike
mod NoClear
mod Resting
mod ClearSteps
mod Clears
mod ReadyFlag
