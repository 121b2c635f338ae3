pub mod Tails
pub mod Onto
pub mod Gaps
pub mod Printed
