pub mod Grouped
pub mod Items
pub mod Kept
pub mod Partners
pub mod Resolved
