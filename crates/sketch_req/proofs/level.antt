-- One level, which the code calls a compactor.
pub mod Changes
pub mod Turns
