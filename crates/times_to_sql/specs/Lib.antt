pub mod Frequencies
pub mod Shifts
pub mod Fills
pub mod Flows
pub mod TimeTables
pub mod StockItems
