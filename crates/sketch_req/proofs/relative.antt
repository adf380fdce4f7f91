-- Errors are relative to the distance from the exact end.
pub mod Charges
pub mod Counted
pub mod Moves
pub mod Peels
pub mod Relative
