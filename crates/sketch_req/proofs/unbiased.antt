-- Ranks are right on average.
pub mod Drawn
pub mod Fair
