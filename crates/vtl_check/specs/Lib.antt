pub mod Checked
pub mod Count
pub mod Names
pub mod Script
pub mod Spent
pub mod Steps
pub mod Transformations
pub mod Uses
