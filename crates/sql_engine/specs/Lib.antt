pub mod Exported
pub mod Held
pub mod InputTables
pub mod LastReads
pub mod Reads
pub mod Runs
pub mod Statements
pub mod Structures
