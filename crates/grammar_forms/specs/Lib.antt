pub mod Forms
pub mod Scripts
pub mod Written
