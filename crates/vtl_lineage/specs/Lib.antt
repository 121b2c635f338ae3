pub mod Copies
pub mod Lines
pub mod Numbers
pub mod Reads
pub mod Shown
pub mod Statements
