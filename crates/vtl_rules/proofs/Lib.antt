pub mod CheckLemmas
pub mod HierarchyLemmas
pub mod ItemLemmas
pub mod NumberLemmas
pub mod RulingLemmas
pub mod RunLemmas
pub mod SideLemmas
pub mod SumLemmas
