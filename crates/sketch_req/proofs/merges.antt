-- Merges.
pub mod Levels
pub mod Merges
