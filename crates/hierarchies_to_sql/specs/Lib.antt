pub mod SideExps
pub mod ItemTables
pub mod RuleSelects
pub mod CheckTables
pub mod ComputedTables
pub mod Writable
pub mod SideItems
pub mod RuleItems
