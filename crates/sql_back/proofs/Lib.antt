pub mod TextParts
pub mod EngineRuns
pub mod InputTables
pub mod BackRuns
