pub mod Aggregates
pub mod Windowed
