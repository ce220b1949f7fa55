pub mod Lexed
pub mod Digits
pub mod Powers
pub mod Loops
pub mod Labels
