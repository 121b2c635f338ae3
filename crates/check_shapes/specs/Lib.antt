pub mod Choices
pub mod Clauses
pub mod Measures
pub mod Names
pub mod Pairs
pub mod Shape
