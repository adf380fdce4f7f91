-- The exact tail.
pub mod Answers
pub mod Summaries
