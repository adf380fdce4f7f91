pub mod Merges
pub mod Reads
