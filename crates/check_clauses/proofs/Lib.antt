pub mod ClauseErrors
pub mod OperandLemmas
