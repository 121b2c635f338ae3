pub mod CallLemmas
pub mod FrameLemmas
pub mod OrderLemmas
pub mod PartitionLemmas
pub mod PutLemmas
pub mod StandLemmas
