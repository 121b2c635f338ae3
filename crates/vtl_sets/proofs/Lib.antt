pub mod ColumnLemmas
pub mod TableLemmas
