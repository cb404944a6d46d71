pub mod Figure
pub mod Run
pub mod Tables
pub mod Working
