-- Bytes and what they spell.
pub mod Spelled
