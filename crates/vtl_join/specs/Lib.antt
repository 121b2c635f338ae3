pub mod Crossing
pub mod Finding
pub mod Gatherings
pub mod Joining
pub mod Keys
pub mod Picks
