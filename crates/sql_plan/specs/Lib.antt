pub mod Chosen
pub mod EarlyChosen
pub mod Reach
