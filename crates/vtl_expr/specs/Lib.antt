pub mod Choices
pub mod Partners
pub mod Prepared
pub mod Sides
