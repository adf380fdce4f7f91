-- How far off ranks are.
pub mod LoadBound
pub mod NormalMoments
pub mod Squares
