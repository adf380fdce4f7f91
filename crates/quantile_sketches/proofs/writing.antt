-- How answers are written.
pub mod Answers
