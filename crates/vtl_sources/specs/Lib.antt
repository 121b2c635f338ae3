pub mod Sources
pub mod Table
pub mod Lineage
pub mod Links
