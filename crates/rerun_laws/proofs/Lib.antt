pub mod Changes
pub mod DataSets
pub mod Given
pub mod InputsRead
pub mod Places
pub mod Turns
