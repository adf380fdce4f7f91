-- What calls return.
pub mod Calls
