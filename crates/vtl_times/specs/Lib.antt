pub mod Along
pub mod Columns
pub mod Filling
pub mod Flows
pub mod InOrder
pub mod Lists
pub mod Put
