pub mod Position
pub mod LineType
pub mod Vector
pub mod Character
pub mod Glyph
pub mod Tables
pub mod Working
