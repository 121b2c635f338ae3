pub mod AnswerLemmas
pub mod ChosenLemmas
pub mod ExistenceLemmas
pub mod OperandLemmas
pub mod PivotLemmas
pub mod RowLemmas
pub mod UnionLemmas
pub mod UnpivotLemmas
