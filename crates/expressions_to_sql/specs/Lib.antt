pub mod Constants
pub mod ToSql
pub mod Names
pub mod Held
pub mod Aliases
pub mod CallForms
