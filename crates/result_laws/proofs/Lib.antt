pub mod Components
mod Declared
mod Marks
pub mod Names
mod Results
mod WordedClauses
mod WordedJoins
mod WordedOperators
mod WordedRules
pub mod WordedScripts
mod WordedSets
mod WordedTyping
pub mod Words
