mod Circles
mod Columns
mod Counts
mod Examples
mod Finding
mod Identifiers
pub mod InOrder
mod Lists
mod Maps
mod Runs
mod SideLemmas
