pub mod Least
pub mod Unbroken
pub mod QueryKinds
pub mod SeriesColumns
pub mod FewOperands
pub mod Grouped
pub mod Maps
pub mod Places
