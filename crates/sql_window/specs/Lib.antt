pub mod Frames
pub mod Keys
pub mod Runs
pub mod TabledRows
