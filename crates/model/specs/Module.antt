-- Room: Modules: their bytes, which are well-formed, and which stand for a program.
pub mod Codes
pub mod Spelling
pub mod Reading
pub mod Images
pub mod Flow
pub mod WellFormed
pub mod Loading
pub mod Placed
