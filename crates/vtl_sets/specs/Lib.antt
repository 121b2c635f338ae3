pub mod DataSets
pub mod TableOf
