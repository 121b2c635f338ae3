pub mod Apart
pub mod FormLaws
mod GrammarStatements
pub mod Laid
pub mod Lists
pub mod Orders
pub mod Scripts
