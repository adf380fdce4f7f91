-- Images of sketches.
pub mod Places
pub mod Read
pub mod Texts
pub mod Written
