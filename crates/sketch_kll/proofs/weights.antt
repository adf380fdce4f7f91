-- Updates with a weight.
pub mod Digits
pub mod Weighted
