pub mod AnalysisLemmas
pub mod CallLemmas
pub mod PartitionLemmas
pub mod PlaceLemmas
pub mod PutLemmas
pub mod SortLemmas
pub mod ValueLemmas
pub mod Windowed
