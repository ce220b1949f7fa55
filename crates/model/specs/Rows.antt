-- Room: Worked rows: what the definitions come to in cases that were worked out by hand.
pub mod Cards
pub mod Cut
pub mod Trees
pub mod Faults
pub mod Patterns
pub mod Spelling
pub mod WellFormed
pub mod Flow
