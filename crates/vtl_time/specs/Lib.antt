pub mod Days
pub mod Numerals
pub mod Periods
