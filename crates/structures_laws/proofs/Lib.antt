pub mod RecordsAgain
pub mod Orders
pub mod Codes
pub mod OneMore
pub mod Whole
