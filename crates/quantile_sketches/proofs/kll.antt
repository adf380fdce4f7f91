-- KLL as a kind of sketches that runs work on.
pub mod Obeys
pub mod Rules
