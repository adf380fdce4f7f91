-- REQ as a kind of sketches that runs work on.
pub mod Fair
pub mod Obeys
pub mod Rules
pub mod Shapes
pub mod Tails
pub mod Updated
