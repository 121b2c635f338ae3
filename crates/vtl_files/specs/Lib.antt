pub mod Outside
pub mod Whole
pub mod Mem
