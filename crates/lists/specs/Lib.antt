pub mod Item
pub mod Play
pub mod Erase
pub mod Tables
