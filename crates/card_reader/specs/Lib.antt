pub mod Lines
pub mod Parts
pub mod Reached
pub mod Reading
