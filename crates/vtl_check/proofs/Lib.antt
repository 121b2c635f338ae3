pub mod CountLemmas
pub mod DataSetsRead
pub mod KnownLemmas
pub mod LeftLemmas
pub mod NameLemmas
pub mod ScriptLemmas
pub mod StepLemmas
