-- Views of sketches.
pub mod Built
pub mod Entries
