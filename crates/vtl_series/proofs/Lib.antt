mod AgainLemmas
pub mod DatedLemmas
mod EmptyLemmas
mod FitLemmas
mod GroupLemmas
mod ListLemmas
pub mod NumberLemmas
pub mod OrderLemmas
mod SeriesLemmas
pub mod SpanLemmas
mod WholeLemmas
