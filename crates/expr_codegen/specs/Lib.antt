pub mod Texts
pub mod Code
pub mod Emitting
pub mod Views
