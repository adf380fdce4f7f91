mod Exact
mod Feeding
mod FirstFields
mod OneRun
mod Lookups
mod Adding
mod Reordered
mod Summaries
pub mod NextLines
