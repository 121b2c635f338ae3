pub mod Conditions
pub mod PointQueries
pub mod CheckQueries
pub mod Items
pub mod Writable
