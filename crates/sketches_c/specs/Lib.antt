pub mod Calls
pub mod Codes
pub mod FloatLaws
pub mod Floats
pub mod Frames
pub mod Held
pub mod Sketches
