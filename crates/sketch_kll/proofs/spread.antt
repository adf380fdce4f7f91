-- How far off the ranks of a sketch are.
pub mod Calls
pub mod Rolled
