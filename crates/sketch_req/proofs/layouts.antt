-- Layouts: the numbers of a level that decide what it does, without its items.
pub mod Capacities
pub mod Layouts
