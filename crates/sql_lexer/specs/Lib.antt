pub mod Front
pub mod Lexed
pub mod Places
pub mod Spelling
pub mod Writing
