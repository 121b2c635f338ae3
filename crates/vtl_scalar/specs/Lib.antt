pub mod Answers
pub mod Given
pub mod KindLaws
pub mod LawOperators
pub mod Members
pub mod Operands
pub mod Seen
