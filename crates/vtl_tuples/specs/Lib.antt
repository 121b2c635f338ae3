pub mod Keys
pub mod Leads
pub mod Tuples
