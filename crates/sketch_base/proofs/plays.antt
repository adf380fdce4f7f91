-- Plays: what lists of actions give under a coin word.
pub mod Picks
pub mod Plays
