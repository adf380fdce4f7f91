-- Sketches as they are stored.
pub mod Stored
