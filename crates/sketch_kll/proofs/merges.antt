-- Merges.
pub mod Actions
pub mod Joined
pub mod Merged
