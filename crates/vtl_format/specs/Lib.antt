pub mod Calls
pub mod Form
pub mod Formed
pub mod Layout
pub mod Written
