pub mod Sifting
pub mod Safety
pub mod Equalities
pub mod Partners
