pub mod Views
pub mod OntoLaws
pub mod GapLaws
pub mod FormedTokens
pub mod PrintLaws
