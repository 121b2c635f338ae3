pub mod Alike
pub mod Before
pub mod Differences
pub mod Filled
pub mod Gaps
pub mod Lists
pub mod Shifts
pub mod Undone
