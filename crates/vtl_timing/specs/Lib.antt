pub mod Timed
pub mod TimeShapes
pub mod Times
