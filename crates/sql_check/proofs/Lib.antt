pub mod Settled
pub mod InputColumns
