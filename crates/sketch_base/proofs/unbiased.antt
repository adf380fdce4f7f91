-- Ranks are right on average over all coin words.
pub mod Average
pub mod Fair
pub mod Mirrored
