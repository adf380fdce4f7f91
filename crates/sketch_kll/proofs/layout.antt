-- All levels of a sketch lie in one list, level 0 last, between bounds.
pub mod Alike
pub mod Compacted
pub mod Flats
pub mod Full
pub mod Legal
pub mod Runs
