pub mod Tests
pub mod Laws
pub mod Chains
pub mod Scripts
pub mod Written
pub mod Narrow
