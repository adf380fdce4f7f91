pub mod Exact
pub mod Fed
pub mod Fields
pub mod Found
pub mod Joined
pub mod Lines
pub mod Shown
pub mod Summary
