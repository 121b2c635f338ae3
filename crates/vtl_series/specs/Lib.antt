pub mod Kept
pub mod Series
