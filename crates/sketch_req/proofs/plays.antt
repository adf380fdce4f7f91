-- The traces of updates and merges.
pub mod Legal
