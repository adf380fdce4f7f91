-- The lines of a text.
pub mod FirstLine
