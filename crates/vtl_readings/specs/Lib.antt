pub mod Aggregates
pub mod Expressions
pub mod Faults
pub mod Hierarchies
pub mod Pairs
