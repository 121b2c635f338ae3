pub mod Lists
pub mod Places
pub mod Typing
pub mod Written
