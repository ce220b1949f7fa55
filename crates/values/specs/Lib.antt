pub mod Values
pub mod Answers
pub mod Arguments
pub mod Functions
