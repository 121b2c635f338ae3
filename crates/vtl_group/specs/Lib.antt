pub mod Calls
pub mod Points
pub mod Walks
