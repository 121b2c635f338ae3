pub mod Kept
pub mod Lost
pub mod Operands
pub mod Sessions
pub mod Told
