pub mod Depends
pub mod Given
pub mod Parts
pub mod Refreshes
pub mod Values
