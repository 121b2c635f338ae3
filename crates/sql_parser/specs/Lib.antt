pub mod Depths
pub mod Parsed
pub mod Parts
pub mod Steps
pub mod Tails
