-- Images of sketches.
pub mod Levels
pub mod Texts
pub mod Written
