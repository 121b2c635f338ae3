pub mod Views
pub mod Reaches
pub mod Places
pub mod FirstJoins
pub mod Entries
pub mod Listed
pub mod Pushed
