pub mod Depth
pub mod Trees
pub mod View
pub mod Written
