-- Room: Worked cases, computed.
pub mod Decks
pub mod Statements
pub mod Matches
pub mod Levels
pub mod Objects
pub mod Module
pub mod Counts
pub mod Flow
pub mod Patterns
