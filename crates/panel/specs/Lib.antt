pub mod Record
pub mod Answer
pub mod Panel
pub mod Screen
pub mod Tables
pub mod Working
