pub mod Fitted
pub mod ItemLemmas
pub mod GatheredLemmas
pub mod GroupLemmas
pub mod KeyLemmas
pub mod LiftedLemmas
pub mod ResolvedLemmas
pub mod SelectLemmas
