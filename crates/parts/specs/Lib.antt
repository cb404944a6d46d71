pub mod Format
pub mod Command
pub mod Refusal
pub mod Address
pub mod Tables
pub mod Working
