pub mod Asking
pub mod Elements
pub mod Marking
