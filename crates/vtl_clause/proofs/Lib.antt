pub mod SubLemmas
pub mod WalkLemmas
