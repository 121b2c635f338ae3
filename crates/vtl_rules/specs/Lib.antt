pub mod ComputedItems
pub mod Imbalances
pub mod Itemized
pub mod Rulings
pub mod SideValues
