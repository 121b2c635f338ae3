pub mod Called
pub mod Depths
pub mod Gives
pub mod Reads
pub mod Scripts
pub mod SoundRulings
pub mod WellTyped
