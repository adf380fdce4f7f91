-- Views of sketches.
pub mod Views
