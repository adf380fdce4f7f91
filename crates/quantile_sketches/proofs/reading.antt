-- How lines are read.
pub mod Lines
pub mod Words
