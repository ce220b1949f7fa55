pub mod Starts
pub mod Balance
pub mod Act
pub mod Looks
pub mod Filters
