pub mod Lexed
pub mod Limits
pub mod Scans
