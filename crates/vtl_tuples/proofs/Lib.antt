pub mod Fills
pub mod Folds
pub mod Leads
pub mod Lists
pub mod Onces
