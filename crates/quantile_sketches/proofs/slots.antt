-- The table of slots that the program keeps.
pub mod Carried
pub mod Slots
