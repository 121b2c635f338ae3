pub mod Adding
pub mod Memory
