-- What stands behind the answers to lines.
pub mod Lines
pub mod Summaries
