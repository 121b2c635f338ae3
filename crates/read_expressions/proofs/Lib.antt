pub mod CallLemmas
pub mod ListTurns
pub mod ReadLemmas
pub mod StepTurns
pub mod Views
