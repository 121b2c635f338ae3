pub mod Turned
pub mod Grouped
pub mod Windowed
pub mod TurnedItems
pub mod GroupedItems
pub mod WindowItems
pub mod Writable
