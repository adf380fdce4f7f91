-- Sketches as they are stored.
pub mod Copies
pub mod Extremes
pub mod Sound
pub mod Updated
