pub mod Clauses
pub mod JoinOperands
pub mod JoinView
pub mod Targets
pub mod TargetsView
