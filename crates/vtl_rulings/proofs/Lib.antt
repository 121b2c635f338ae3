pub mod Checked
pub mod ChecksKept
mod Examples
mod HierarchyExamples
pub mod HierarchiesKept
pub mod HierarchiesMade
pub mod HierarchyKeys
pub mod HierarchyOrders
pub mod HierarchyProfiles
pub mod Orders
pub mod PointsKept
pub mod Profiles
pub mod RuledLooks
pub mod Running
pub mod Shown
pub mod SideKinds
pub mod SidesHold
