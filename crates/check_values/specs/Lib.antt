pub mod Calls
pub mod Columns
pub mod Groupings
pub mod Literals
pub mod Operators
pub mod Windows
