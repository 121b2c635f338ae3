pub mod Found
pub mod Frames
pub mod Overs
