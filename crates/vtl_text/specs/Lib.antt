pub mod NamedItems
pub mod Texts
pub mod Words
