-- Plans: what commands do to level lengths, coins and streams, before any item is looked at.
pub mod Bare
pub mod LeftOut
pub mod Legal
pub mod Streams
