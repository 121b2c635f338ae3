pub mod Agree
pub mod Inputs
pub mod Over
