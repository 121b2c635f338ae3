mod Determined
mod Examples
pub mod ScriptsKept
pub mod ScriptsOrders
pub mod ScriptsProfiles
