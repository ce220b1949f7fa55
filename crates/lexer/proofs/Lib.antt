pub mod Fronts
pub mod Lexing
pub mod Scanning
pub mod Values
pub mod Naming
