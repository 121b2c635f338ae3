pub mod Answered
pub mod Operands
pub mod Views
pub mod Tests
pub mod ResolvedParts
pub mod SetNamed
pub mod GroupPlaces
