pub mod Lent
pub mod Operands
