pub mod Columns
pub mod Joins
pub mod Listed
pub mod Places
