pub mod Deck
pub mod Language
pub mod Pattern
pub mod Module
pub mod Machine
pub mod Laws
pub mod Rows
