pub mod Joins
pub mod FullJoins
pub mod JoinItems
pub mod KeyItems
pub mod JoinTables
pub mod FilteredJoins
