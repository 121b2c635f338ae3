pub mod DataSets
pub mod Draws
pub mod Nodes
pub mod Said
pub mod Script
pub mod Typed
