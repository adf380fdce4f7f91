-- What updates and compressions do, as actions.
pub mod Compresses
pub mod Updates
