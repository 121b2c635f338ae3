pub mod ByPlace
pub mod InputNumbers
pub mod Kept
pub mod Linked
pub mod Merging
pub mod Numbering
pub mod ReadInputs
pub mod Walks
