pub mod Calls
pub mod Definitions
pub mod Found
pub mod InOrder
pub mod Order
pub mod RuleItems
pub mod Running
