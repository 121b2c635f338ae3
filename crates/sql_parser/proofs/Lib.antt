pub mod FormedScripts
pub mod Gives
pub mod Joins
pub mod ReadingAt
pub mod Steps
pub mod Texts
pub mod Told
pub mod Views
