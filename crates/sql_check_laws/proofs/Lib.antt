pub mod BothWays
pub mod FittingExpressions
pub mod TypedSelects
pub mod TypedStatements
pub mod GivenColumns
pub mod OperatorKinds
pub mod Reached
pub mod Examples
