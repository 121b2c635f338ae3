pub mod Pins
pub mod Walks
