pub mod Laws
pub mod Readings
pub mod Settled
mod Answers
mod Eights
mod Files
mod Gaps
mod Headings
mod Opened
mod Parts
mod Passing
mod Showing
mod Shown
mod Taking
mod Wholes
mod Written
