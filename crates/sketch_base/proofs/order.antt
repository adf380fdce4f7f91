-- Items in order.
pub mod Extremes
pub mod Order
