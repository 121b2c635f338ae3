pub mod Sifts
pub mod Combined
pub mod SafeValues
pub mod Equations
pub mod Keyed
pub mod Partnered
