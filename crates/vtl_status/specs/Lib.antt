pub mod PartView
pub mod StatusLine
