pub mod Lengths
pub mod PointLemmas
pub mod WalkLemmas
