pub mod Numbered
pub mod Tables
