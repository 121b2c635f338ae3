pub mod Conditions
pub mod Found
pub mod GroupWalks
pub mod KeyedGroups
pub mod Recipes
