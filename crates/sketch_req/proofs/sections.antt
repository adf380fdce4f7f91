-- The sections of a level.
pub mod Sections
