pub mod Agree
pub mod Inputs
pub mod Runs
pub mod Statements
pub mod Tables
