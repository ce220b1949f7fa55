pub mod Loops
pub mod Seen
pub mod Both
pub mod Written
pub mod Leaving
