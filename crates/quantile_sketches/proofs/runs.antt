-- Runs of commands.
pub mod Audits
pub mod Kll
pub mod Req
pub mod Runs
pub mod Slots
