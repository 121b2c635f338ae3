pub mod Both
pub mod Fits
pub mod Selects
pub mod Statements
pub mod Operators
