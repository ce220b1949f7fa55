pub mod Places
pub mod Decoding
pub mod Parts
pub mod Labels
pub mod Leads
pub mod Loaded
pub mod Answers
