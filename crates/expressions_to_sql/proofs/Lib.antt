pub mod WrittenNumbers
pub mod WrittenConstants
pub mod FormedConstants
pub mod TypedCalls
pub mod SetMembers
pub mod LiteralOperands
pub mod KeptKinds
pub mod KeptValues
pub mod FittingExpressions
pub mod FormedExpressions
pub mod OverPoints
pub mod OverGroups
pub mod ExpressionDepths
pub mod ConstantTexts
pub mod Views
pub mod MadeParts
pub mod BracketedCalls
mod Examples
