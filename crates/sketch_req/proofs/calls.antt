-- What calls of a sketch return, and calls in turn.
pub mod Calls
pub mod InTurn
pub mod OneCall
