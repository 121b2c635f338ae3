pub mod Defined
pub mod Rulesets
pub mod Rulings
pub mod Typing
pub mod WalkView
