-- Ranks that are exact.
pub mod ExactTails
