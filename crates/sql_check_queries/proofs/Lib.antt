pub mod Parts
pub mod Shares
pub mod Columns
pub mod WholeQueries
