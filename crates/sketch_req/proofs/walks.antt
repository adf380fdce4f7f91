-- Walks, as actions on bags.
pub mod Actions
pub mod Steps
pub mod Turns
pub mod Walks
