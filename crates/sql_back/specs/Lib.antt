pub mod TextRuns
pub mod Texts
