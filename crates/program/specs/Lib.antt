pub mod Fresh
pub mod Runs
pub mod Words
