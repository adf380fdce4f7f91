-- How far off the ranks of KLL runs are.
pub mod Rollups
pub mod Trees
