pub mod Codes
pub mod FloatOrder
pub mod Generic
pub mod Masses
pub mod OneRead
pub mod Spent
pub mod Steps
