pub mod Evaluated
pub mod Held
pub mod Loaded
pub mod Reads
pub mod Reordered
pub mod Results
pub mod Values
pub mod Written
