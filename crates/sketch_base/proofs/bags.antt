-- Bags of items with weights, which is what a sketch keeps.
pub mod Acts
pub mod Alike
pub mod Parts
