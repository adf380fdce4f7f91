-- Views of levels.
pub mod Views
