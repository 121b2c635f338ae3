pub mod Added
pub mod Quotients
pub mod States
