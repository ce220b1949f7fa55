-- Room: Patterns: their ends, the search of a match, and pattern code with its steps.
pub mod Patterns
pub mod BasicEnds
pub mod Ends
pub mod Search
pub mod Steps
pub mod Code
pub mod Stands
