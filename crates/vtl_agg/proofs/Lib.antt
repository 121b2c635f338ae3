pub mod FarLemmas
pub mod FirstLemmas
pub mod KnownLemmas
pub mod MiddleLemmas
pub mod QuotientLemmas
pub mod RangeLemmas
pub mod TotalLemmas
