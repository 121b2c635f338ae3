pub mod Answers
pub mod Gathered
pub mod ItemCells
pub mod Items
pub mod Outputs
pub mod Parts
pub mod SimpleItems
