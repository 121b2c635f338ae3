pub mod CommonKinds
pub mod EarlyTests
pub mod Examples
pub mod JoinRows
pub mod ListedParts
pub mod RowsBefore
