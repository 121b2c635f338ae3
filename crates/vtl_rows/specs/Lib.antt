pub mod Flat
pub mod Gathered
pub mod Keys
pub mod Named
pub mod Places
pub mod Runs
pub mod Seen
pub mod Tables
