-- Items that are moved between vectors.
pub mod Moving
