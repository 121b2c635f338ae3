pub mod Existence
pub mod Operands
pub mod Pivots
pub mod Unpivots
