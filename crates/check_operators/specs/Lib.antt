pub mod Operators
pub mod Places
pub mod Sets
pub mod Typed
