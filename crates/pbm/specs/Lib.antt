pub mod File
pub mod Contents
pub mod Calls
pub mod Spaced
pub mod Tables
pub mod Working
